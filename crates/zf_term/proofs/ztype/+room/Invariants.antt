use Rattle.zf_term.proofs.Prelude.{◌*◌, ◌+◌, ◌≡◌, ◌≤◌, drop, map, type_nodes, nodes_of_all, types, type_of}
use Rattle.zf_term.proofs.ztype.+room.Given as goal

abbrev pub decreases-ZType::room_after : goal.decreases-ZType::room_after
decreases-ZType::room_after l = 2 * l.room

abbrev pub decreases-room_after_all : goal.decreases-room_after_all
decreases-room_after_all l = 2 * l.room + 1

abbrev pub decreases-ZType::room_after-loop-left : goal.decreases-ZType::room_after-loop-left
decreases-ZType::room_after-loop-left l = l.left

abbrev pub invariant-ZType::room_after-loop-left : goal.invariant-ZType::room_after-loop-left
invariant-ZType::room_after-loop-left l = record {
  counts : l.left + type_nodes (type_of l.self) ≡ l.room + type_nodes (type_of l.ztype);
  less : l.left ≤ l.room;
}

abbrev pub invariant-room_after_all-loop-part : goal.invariant-room_after_all-loop-part
invariant-room_after_all-loop-part l = record {
  counts : l.left + nodes_of_all (types (map type_of l.parts)) ≡ l.room + nodes_of_all (types (map type_of (drop l.part-index l.parts)));
  less : l.left ≤ l.room;
}
