use Rattle.zf_reach.proofs.Prelude.{◌≡◌, KeepsNodes, InSearch}
use Rattle.zf_reach.proofs.seeking.seek_part.Given as goal

abbrev pub invariant-edges : goal.invariant-edges
invariant-edges g l =
    InSearch (g.M.Machine.explored l.machine) (g.M.Machine.sought l.machine) l.fn.limit
    (g.M.Machine.Stands l.machine l.search.run.cursor) l.search.run.met.keys l.search.trail.items l.search.run.place l.search.run.edges
    × (g.M.Machine.part l.search.run.cursor ≡ g.M.Machine.part l.initial.search.run.cursor)
    × (l.search.run.place ≡ l.initial.search.run.place)
    × KeepsNodes l.initial.search.run.met.keys l.search.run.met.keys
    × g.M.Machine.Fits l.machine l.search.run.cursor

abbrev pub decreases-edges : goal.decreases-edges
decreases-edges g l = g.M.Machine.ahead l.search.run.cursor
