use Rattle.zf_reach.proofs.Prelude.{length, ℕ, IsChain, SaysWay}
use Rattle.zf_reach.proofs.trail.append_way.Given as goal

abbrev pub invariant-steps : goal.invariant-steps
invariant-steps g l =
    (at : ℕ)
    × IsChain l.search.trail.items (length l.search.trail.items) l.way.items at
    × SaysWay (g.M.Machine.explored l.machine) (g.M.Machine.words l.machine) l.search.run.met.keys l.search.trail.items at l.initial.line.items l.line.items

abbrev pub decreases-steps : goal.decreases-steps
decreases-steps g l = length l.way.items
