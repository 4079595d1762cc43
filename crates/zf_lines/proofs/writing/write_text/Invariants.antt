-- What is gone from `rest` was appended, and no call failed.
use Rattle.zf_lines.proofs.Prelude.{◌++◌, ◌≡◌, length, List, ℕ, Appends, device_of, failures_of}
use Rattle.zf_lines.proofs.writing.write_text.Given as goal

abbrev pub invariant-loop-rest : goal.invariant-loop-rest
invariant-loop-rest g l = (done : List ℕ) × (l.text ≡ done ++ l.rest)
    × Appends (g.W.Write.contents (device_of l.initial.writer)) (g.W.Write.contents (device_of l.writer)) done
    × (failures_of l.writer ≡ 0)

abbrev pub decreases-loop-rest : goal.decreases-loop-rest
decreases-loop-rest g l = length l.rest
