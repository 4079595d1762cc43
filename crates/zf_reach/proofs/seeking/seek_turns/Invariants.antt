use Rattle.zf_reach.proofs.Prelude.{◌+◌, ◌-◌, AtSearch}
use Rattle.zf_reach.proofs.seeking.seek_turns.Given as goal

abbrev pub invariant-turns : goal.invariant-turns
invariant-turns g l =
    AtSearch (g.M.Machine.explored l.machine) (g.M.Machine.sought l.machine) l.fn.limit l.search.run.met.keys l.search.trail.items l.search.run.place l.search.run.edges
    × g.M.Machine.Fits l.machine l.search.run.cursor

abbrev pub decreases-turns : goal.decreases-turns
decreases-turns g l = l.fn.limit + 1 - l.search.run.place
