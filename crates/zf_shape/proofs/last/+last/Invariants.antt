use Rattle.zf_shape.proofs.Prelude.{◌≡◌, drop, map, max, links, range_of, ranges, resolved_link_of, resolved_of, terms, all_greatest, links_greatest, place_after, ranges_greatest}
use Rattle.zf_shape.proofs.last.+last.Given as goal

abbrev pub invariant-last_of_terms-loop-term : goal.invariant-last_of_terms-loop-term
invariant-last_of_terms-loop-term g l =
    max (place_after l.fn.found) (all_greatest (g.P.Places.number l.places) (terms (map resolved_of l.items)))
    ≡ max (place_after l.last) (all_greatest (g.P.Places.number l.places) (terms (map resolved_of (drop l.term-index l.term-items))))

abbrev pub invariant-last_of_links-loop-link : goal.invariant-last_of_links-loop-link
invariant-last_of_links-loop-link g l =
    max (place_after l.fn.found) (links_greatest (g.P.Places.number l.places) (links (map resolved_link_of l.further)))
    ≡ max (place_after l.last) (links_greatest (g.P.Places.number l.places) (links (map resolved_link_of (drop l.link-index l.link-items))))

abbrev pub invariant-last_of_ranges-loop-range : goal.invariant-last_of_ranges-loop-range
invariant-last_of_ranges-loop-range g l =
    max (place_after l.fn.found) (ranges_greatest (g.P.Places.number l.places) (ranges (map range_of l.variables)))
    ≡ max (place_after l.last) (ranges_greatest (g.P.Places.number l.places) (ranges (map range_of (drop l.range-index l.range-items))))
