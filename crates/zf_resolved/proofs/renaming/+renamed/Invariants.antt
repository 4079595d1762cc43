use Rattle.zf_resolved.proofs.Prelude.{◌≡◌, map, take, range_of, resolved_link_of, resolved_of, link_renamed, range_renamed, renamed}
use Rattle.zf_resolved.proofs.renaming.+renamed.Given as goal

abbrev pub invariant-renamed_terms-loop-term : goal.invariant-renamed_terms-loop-term
invariant-renamed_terms-loop-term g l = map resolved_of l.all ≡ map (renamed (g.N.Naming.becomes l.naming)) (map resolved_of (take l.term-index l.term-items))

abbrev pub invariant-renamed_links-loop-link : goal.invariant-renamed_links-loop-link
invariant-renamed_links-loop-link g l = map resolved_link_of l.all ≡ map (link_renamed (g.N.Naming.becomes l.naming)) (map resolved_link_of (take l.link-index l.link-items))

abbrev pub invariant-renamed_ranges-loop-range : goal.invariant-renamed_ranges-loop-range
invariant-renamed_ranges-loop-range g l = map range_of l.all ≡ map (range_renamed (g.N.Naming.becomes l.naming)) (map range_of (take l.range-index l.range-items))
