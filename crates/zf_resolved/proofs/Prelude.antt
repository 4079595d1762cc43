-- What the proofs of this crate take from elsewhere, passed on from one place.
pub use Rattle.std.proofs.Common.{◌++◌, ◌∙◌, ◌∷◌, ◌≡◌, [], ap, drop, get_or, length, List, map, None, Option, refl, Some, sym, ◌<◌, ◌+◌, ◌≤◌, ℕ, arith, take}
pub use Rattle.zf_data.specs.{all_of}
pub use Rattle.zf_tree.specs.declared.span.Span.{Span}
pub use Rattle.zf_term.specs.declared.conjunct.Conjunct.{Conjunct}
pub use Rattle.zf_term.specs.declared.resolved.Resolved.{Resolved}
pub use Rattle.zf_term.specs.declared.resolved.ResolvedLink.{ResolvedLink}
pub use Rattle.zf_term.specs.{all_joined, batch_of, binary, both_hold, chain, conjunct_of, is_member, joined, link, links, moved, no_links, numbering, reference, resolved_link_of, resolved_of, ResolvedTree, term_span, absent, all_moved, bracket, comprehension, constant, empty_set, links_moved, listed, no_ranges, no_terms, number, part_moved, present, quantified, range, Ranges, ranges_moved, ResolvedLinks, ResolvedPart, term, unary, part_of, range_of, ranges, terms}
pub use Rattle.zf_term.proofs.ConjunctsSeen.{batch-seen}
pub use Rattle.zf_term.proofs.ResolvedSeen.{new_link, of-Chain, of-Constant, of-link, of-Name, of-Binary, of-Bracket, of-Comprehension, of-EmptySet, of-Listed, of-Number, of-Quantified, of-Unary}
pub use Rattle.zf_resolved.specs.{behind, onto, or_true, tree_in, all_renamed, links_renamed, part_renamed, ranges_renamed, renamed, link_renamed, range_renamed}
