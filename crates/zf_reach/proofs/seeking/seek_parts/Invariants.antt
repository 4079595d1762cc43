use Rattle.zf_reach.proofs.Prelude.{◌≡◌, KeepsNodes, InSearch}
use Rattle.zf_reach.proofs.seeking.seek_parts.Given as goal

abbrev pub invariant-loop-which : goal.invariant-loop-which
invariant-loop-which g l =
    InSearch (g.M.Machine.explored l.machine) (g.M.Machine.sought l.machine) l.fn.limit
    (λ of now. g.M.Machine.HasPassed l.machine of l.which now) l.search.run.met.keys l.search.trail.items l.search.run.place l.search.run.edges
    × (l.search.run.place ≡ l.initial.search.run.place)
    × KeepsNodes l.initial.search.run.met.keys l.search.run.met.keys
    × g.M.Machine.Fits l.machine l.search.run.cursor
