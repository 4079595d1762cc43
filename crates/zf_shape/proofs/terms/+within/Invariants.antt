use Rattle.zf_shape.proofs.Prelude.{◌≤◌, map, take, links, range_of, ranges, resolved_link_of, resolved_of, terms, tallest, tallest_link, tallest_range}
use Rattle.zf_shape.proofs.terms.+within.Given as goal

abbrev pub invariant-are_terms_within-loop-term : goal.invariant-are_terms_within-loop-term
invariant-are_terms_within-loop-term l = tallest (terms (map resolved_of (take l.term-index l.term-items))) ≤ l.highest

abbrev pub invariant-are_links_within-loop-link : goal.invariant-are_links_within-loop-link
invariant-are_links_within-loop-link l = tallest_link (links (map resolved_link_of (take l.link-index l.link-items))) ≤ l.highest

abbrev pub invariant-are_ranges_within-loop-range : goal.invariant-are_ranges_within-loop-range
invariant-are_ranges_within-loop-range l = tallest_range (ranges (map range_of (take l.range-index l.range-items))) ≤ l.highest
