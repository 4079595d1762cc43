-- What the search for the edges of a node answers, and how explorations and searches end.
use Rattle.std.specs.Prelude.{◌≡◌, ℕ, ◌<◌, true, List, []}
use Rattle.zf_graph.specs.{broken, ended, Ending, Explored, found, missing, no_turn, open_ended, paused, Result, Sought, Turn, untold, with_edge}
use Rattle.zf_reach.specs.declared.ending.Ending as code
use Rattle.zf_reach.specs.declared.ending.Ending.TheVariants as endings
use Rattle.zf_reach.specs.declared.machine.Beginning.{Beginning}
use Rattle.zf_reach.specs.declared.machine.Beginning.TheVariants as beginnings
use Rattle.zf_reach.specs.declared.finding.Finding.{Finding}
use Rattle.zf_reach.specs.declared.finding.Finding.TheVariants as findings
use Rattle.zf_reach.specs.declared.machine.Found.{Found}
use Rattle.zf_reach.specs.declared.machine.Found.TheVariants as founds
use Rattle.zf_reach.specs.declared.sight.Sight.{Sight}
use Rattle.zf_reach.specs.declared.sight.Sight.TheVariants as sights

abbrev pub ending_of : code.Ending → (at : List ℕ) → Ending
ending_of endings.Ended at = ended
ending_of endings.Paused at = paused
ending_of endings.Broken at = broken at

abbrev pub result_of : Finding → (at : List ℕ) → Result
result_of findings.Found at = found
result_of findings.Missing at = missing
result_of findings.OpenEnded at = open_ended
result_of findings.Untold at = untold at

-- the node is seen so
abbrev pub IsSeenAs : {N : Type 0} → Sought N → Sight → (node : N) → (stop : List ℕ) → Type 0
IsSeenAs s sights.Sought node stop = s.IsSought node
IsSeenAs s sights.Other node stop = s.IsOther node
IsSeenAs s sights.Untold node stop = s.IsUntold node stop

-- the turn of the node begins so
abbrev pub BeginsAs : {N L : Type 0} → Explored N L → Beginning → (node : N) → (now : Turn N L) → (stop : List ℕ) → Type 0
BeginsAs p beginnings.Regular node now stop = (now ≡ no_turn) × p.BeginsTurn node now
BeginsAs p beginnings.Stray node now stop = (now ≡ record { stray = true; edges = [] }) × p.BeginsTurn node now
BeginsAs p beginnings.Out node now stop = (now ≡ no_turn) × p.BreaksTurn node no_turn stop

-- what holds of the turn, unless it breaks off at once
abbrev pub UnlessOut : Beginning → Type 0 → Type 0
UnlessOut beginnings.Regular Holds = Holds
UnlessOut beginnings.Stray Holds = Holds
UnlessOut beginnings.Out Holds = Unit {0}

-- The search goes on to one more edge, or all edges of the part are passed, or the turn breaks off here.
abbrev pub AdvancesTo : {N L : Type 0} → Explored N L → Found N L → (of : N) → (now : Turn N L) → (Stands HasPassed : Turn N L → Type 0) → (stop : List ℕ) → Type 0
AdvancesTo p (founds.Edge label to) of now Stands HasPassed stop = Stands (with_edge now (record { label = label; to = to })) × p.BeginsTurn of (with_edge now (record { label = label; to = to }))
AdvancesTo p founds.Over of now Stands HasPassed stop = HasPassed now
AdvancesTo p founds.Out of now Stands HasPassed stop = p.BreaksTurn of now stop

-- fewer edges are ahead after an edge
abbrev pub HasFewer : {N L : Type 0} → Found N L → (before after : ℕ) → Type 0
HasFewer (founds.Edge label to) before after = after < before
HasFewer founds.Over before after = Unit {0}
HasFewer founds.Out before after = Unit {0}
