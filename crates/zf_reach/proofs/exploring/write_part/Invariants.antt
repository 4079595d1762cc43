use Rattle.zf_reach.proofs.Prelude.{◌≡◌, device_of, failures_of, InParts, KeepsNodes}
use Rattle.zf_reach.proofs.exploring.write_part.Given as goal

abbrev pub invariant-edges : goal.invariant-edges
invariant-edges g l =
    InParts (g.M.Machine.explored l.machine) (g.M.Machine.words l.machine) l.fn.limit (g.M.Machine.Stands l.machine l.run.cursor) g.origin
    (g.W.Write.contents (device_of l.writer)) l.run.met.keys l.run.place l.run.edges l.run.stuck
    × (g.M.Machine.part l.run.cursor ≡ g.M.Machine.part l.initial.run.cursor)
    × (l.run.place ≡ l.initial.run.place)
    × (failures_of l.writer ≡ 0)
    × KeepsNodes l.initial.run.met.keys l.run.met.keys
    × g.M.Machine.Fits l.machine l.run.cursor

abbrev pub decreases-edges : goal.decreases-edges
decreases-edges g l = g.M.Machine.ahead l.run.cursor
