use Rattle.zf_shape.proofs.Prelude.{◌+◌, ◌≡◌, map, take, links, range_of, ranges, resolved_link_of, resolved_of, terms, all_nodes, link_nodes, range_nodes}
use Rattle.zf_shape.proofs.terms.+room.Given as goal

abbrev pub invariant-room_after_terms-loop-term : goal.invariant-room_after_terms-loop-term
invariant-room_after_terms-loop-term l = l.left + all_nodes (terms (map resolved_of (take l.term-index l.term-items))) ≡ l.room

abbrev pub invariant-room_after_links-loop-link : goal.invariant-room_after_links-loop-link
invariant-room_after_links-loop-link l = l.left + link_nodes (links (map resolved_link_of (take l.link-index l.link-items))) ≡ l.room

abbrev pub invariant-room_after_ranges-loop-range : goal.invariant-room_after_ranges-loop-range
invariant-room_after_ranges-loop-range l = l.left + range_nodes (ranges (map range_of (take l.range-index l.range-items))) ≡ l.room
