use Rattle.zf_shape.proofs.Prelude.{◌+◌, ◌≡◌, map, take, set_of, all_set_nodes}
use Rattle.zf_shape.proofs.sets.+nodes.Given as goal

abbrev pub invariant-room_after_all_nodes-loop-domain : goal.invariant-room_after_all_nodes-loop-domain
invariant-room_after_all_nodes-loop-domain l = l.left + all_set_nodes (map set_of (take l.domain-index l.domain-items)) ≡ l.room
