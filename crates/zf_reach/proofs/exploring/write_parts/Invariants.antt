use Rattle.zf_reach.proofs.Prelude.{◌≡◌, device_of, failures_of, InParts, KeepsNodes}
use Rattle.zf_reach.proofs.exploring.write_parts.Given as goal

abbrev pub invariant-loop-which : goal.invariant-loop-which
invariant-loop-which g l =
    InParts (g.M.Machine.explored l.machine) (g.M.Machine.words l.machine) l.fn.limit (λ of now. g.M.Machine.HasPassed l.machine of l.which now) g.origin
    (g.W.Write.contents (device_of l.writer)) l.run.met.keys l.run.place l.run.edges l.run.stuck
    × (l.run.place ≡ l.initial.run.place)
    × (failures_of l.writer ≡ 0)
    × KeepsNodes l.initial.run.met.keys l.run.met.keys
    × g.M.Machine.Fits l.machine l.run.cursor

abbrev pub ghost-write_part : goal.ghost-write_part
ghost-write_part g a = g.origin
