-- What the proofs of this crate take from elsewhere, passed on from one place.
pub use Rattle.std.proofs.Common.{◌≡◌, ℕ, ◌+◌, ◌-◌, ◌<◌, ◌==◌, Bool, Option, List, [], ◌∷◌, ◌++◌, length, map, take, drop, get_or, refl, sym, ap, ◌∙◌, None, ◌&&◌, if◌then◌else◌}
pub use Rattle.std.proofs.lemmas.List.{take_rest, append_assoc, append-nil}
pub use Rattle.zf_tree.specs.declared.span.Span.{Span}
pub use Rattle.zf_term.specs.declared.resolved.Resolved.{Resolved}
pub use Rattle.zf_term.specs.{Defined, links, part_of, range_of, ranges, resolved_link_of, resolved_of, terms, all_joined, batch_of, both_hold, conjunct_of, is_member, joined, moved, numbering, one_holds, ResolvedTree, absent, all_moved, binary, bracket, comprehension, chain, constant, empty_set, link, links_moved, listed, no_links, no_ranges, no_terms, number, part_moved, present, quantified, range, Ranges, ranges_moved, reference, ResolvedLinks, ResolvedPart, term, unary, globals_of, sides_span}
pub use Rattle.zf_extent.specs.declared.offender.Offender.{Offender}
pub use Rattle.zf_extent.specs.{all_offending, first, is_last, links_offending, offending, part_offending, ranges_offending, tested, unless, direct, offending_within, extent_named, extent_set, is_membership, name_offenders}
pub use Rattle.std.specs.Option.{option_or}
pub use Rattle.zf_term.proofs.Choices.{or_else_assoc}
