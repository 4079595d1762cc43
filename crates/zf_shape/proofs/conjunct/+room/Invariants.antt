use Rattle.zf_shape.proofs.Prelude.{◌+◌, ◌≡◌, map, take, all_nodes, conjunct_of, terms}
use Rattle.zf_shape.proofs.Joined.{all_in}
use Rattle.zf_shape.proofs.conjunct.+room.Given as goal

abbrev pub invariant-room_after_batches-loop-batch : goal.invariant-room_after_batches-loop-batch
invariant-room_after_batches-loop-batch l = l.left + all_nodes (terms (all_in (take l.batch-index l.batch-items))) ≡ l.room

abbrev pub invariant-room_after_all-loop-conjunct : goal.invariant-room_after_all-loop-conjunct
invariant-room_after_all-loop-conjunct l = l.left + all_nodes (terms (map conjunct_of (take l.conjunct-index l.conjunct-items))) ≡ l.room
