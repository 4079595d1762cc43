use Rattle.zf_shape.proofs.Prelude.{◌+◌, ◌≡◌, length, take}
use Rattle.zf_shape.proofs.Joined.{all_in}
use Rattle.zf_shape.proofs.conjunct.room_after_count.Given as goal

abbrev pub invariant-loop-batch : goal.invariant-loop-batch
invariant-loop-batch l = l.left + length (all_in (take l.batch-index l.batch-items)) ≡ l.room
