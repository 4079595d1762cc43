-- What the proofs of this crate take from elsewhere, passed on from one place.
pub use Rattle.std.proofs.Common.{◌++◌, ◌+◌, ◌-◌, ◌<◌, ◌↔◌, ◌∙◌, ◌∷◌, ◌≡◌, ◌≤◌, [], add-one, ap, append-nil, append_assoc, arith, Bool, drop, false, get_or, IsTrue, length, length-append, List, map, MatchOption, max, min, None, Option, refl, Some, subst, suc, sym, take, true, true≢false, zero, ℕ}
pub use Rattle.zf_tree.specs.declared.symbol.Quantifier.{Quantifier}
pub use Rattle.zf_tree.specs.declared.span.Span.{Span}
pub use Rattle.std.proofs.lemmas.List.{length-map}
pub use Rattle.zf_term.proofs.ConjunctsSeen.{batch-seen, of-Either, of-Member, of-Term}
pub use Rattle.zf_term.proofs.ResolvedSeen.{link-seen, of-Comprehension, of-Quantified, range-seen}
pub use Rattle.zf_data.specs.{all_of}
pub use Rattle.zf_term.specs.{absent, all_joined, all_nodes, all_set_counts, all_set_nodes, binary, both_hold, bracket, comprehension, chain, constant, empty_set, height, is_member, joined, link, link_nodes, links, listed, moved, no_links, no_ranges, no_terms, nodes, number, numbering, one_holds, part_height, part_nodes, part_of, present, quantified, range, range_nodes, range_of, Ranges, ranges, reference, resolved_link_of, resolved_of, ResolvedLinks, ResolvedPart, ResolvedTree, set_count, set_nodes, set_of, sides_span, tallest, tallest_link, tallest_range, term, terms, unary}
unfoldable pub use Rattle.zf_term.specs.{batch_of, conjunct_of}
pub use Rattle.zf_term.specs.ResolvedTrees.{ResolvedTrees}
pub use Rattle.zf_term.specs.declared.conjunct.Batch.{Batch}
pub use Rattle.zf_term.specs.declared.conjunct.Conjunct.{Conjunct}
pub use Rattle.zf_term.specs.declared.conjunct.Sides.{Sides}
pub use Rattle.zf_term.specs.declared.resolved.Range.{Range}
pub use Rattle.zf_term.specs.declared.resolved.Resolved.{Resolved}
pub use Rattle.zf_term.specs.declared.resolved.ResolvedLink.{ResolvedLink}
pub use Rattle.zf_term.proofs.Renumbered.{same_height, same_nodes}
pub use Rattle.zf_shape.specs.{all_greatest, anywhere, AreLow, greatest, links_greatest, part_greatest, place_after, ranges_greatest}
