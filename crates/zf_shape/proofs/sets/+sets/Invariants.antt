use Rattle.zf_shape.proofs.Prelude.{◌+◌, ◌≡◌, map, take, set_of, all_set_counts}
use Rattle.zf_shape.proofs.sets.+sets.Given as goal

abbrev pub invariant-room_after_all_sets-loop-domain : goal.invariant-room_after_all_sets-loop-domain
invariant-room_after_all_sets-loop-domain l = l.left + all_set_counts (map set_of (take l.domain-index l.domain-items)) ≡ l.room
