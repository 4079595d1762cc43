-- What the proofs of this crate take from elsewhere, passed on from one place.
pub use Rattle.std.proofs.Common.{if◌then◌else◌, ◌*◌, ◌++◌, ◌+◌, ◌-◌, ◌<◌, ◌↔◌, ◌∙◌, ◌∷◌, ◌≡◌, ◌≤◌, ◌⊎◌, [], add-one, ap, append-nil, append_assoc, arith, Bool, Bor, codes, cond, drop, drop-cons, Err, false, get_or, inl, inr, is_ok, is_some, IsTrue, length, length-append, List, map, MatchOption, max, None, not, Ok, OnOk, Option, refl, Result, Some, subst, suc, sym, take, true, true≢false, zero, ℕ, ⊎_elim}
pub use Rattle.std.proofs.lemmas.List.{drop_all, get_or_append_left, map-append, take-map, take_all, take_more}
pub use Rattle.std.proofs.lemmas.Option.{get_or_from_slice_get, none-some, same_Some, slice_get_within}
pub use Rattle.std.proofs.lemmas.Slice.Eq.{bytes_eq-Decides}
pub use Rattle.std.specs.Map.{keys_of, lookup}
pub use Rattle.std.specs.Prelude.{Vec}
pub use Rattle.std.specs.Str.{bytes_eq}
pub use Rattle.zf_reference.specs.{place_in, renumbered}
pub use Rattle.zf_reference.specs.declared.reference.Reference.{Reference}
pub use Rattle.zf_reference.specs.declared.reference.Reference.TheVariants.{Component, Global, Local}
pub use Rattle.zf_tree.specs.declared.symbol.Relation.{Relation}
pub use Rattle.zf_data.specs.{all_of}
pub use Rattle.zf_term.specs.{absent, all_moved, all_onto, basic, batch_step, binary, bracket, comprehension, carrier, chain, comp_of, conjunct_step, constant, DeclaredSet, Defined, definition_of, domain_step, empty_set, entry_of, first_named, globals_of, have_numbers, int, is_member, later, later_parts_text, link, links, links_moved, links_onto, listed, moved, no_links, no_ranges, no_terms, no_types, nodes_of_all, number, numbering, one_holds, onto, pair_type, part_moved, part_of, part_onto, parts_text, plain, power, present, product, quantified, range, range_step, Ranges, ranges, ranges_moved, ranges_onto, reference, resolved_link_step, resolved_step, ResolvedLinks, ResolvedPart, ResolvedTree, sets_of, sides, sides_span, term, terms, Ty, type, type_nodes, type_step, type_text, types, Tys, unary}
unfoldable pub use Rattle.zf_term.specs.{batch_of, conjunct_of, range_of, resolved_link_of, resolved_of, set_of, type_of}
pub use Rattle.std.specs.Option.{option_or}
pub use Rattle.zf_term.specs.ResolvedTrees.{ResolvedTrees}
pub use Rattle.zf_term.specs.declared.globals.Entry.{Entry}
pub use Rattle.zf_term.specs.declared.resolved.Range.{Range}
pub use Rattle.zf_term.specs.declared.resolved.Resolved.{Resolved}
pub use Rattle.zf_term.specs.declared.resolved.Resolved.TheFolds.{fold-roll-Range, fold-roll-Resolved, fold-roll-ResolvedLink, ind-Resolved, map-Resolved}
pub use Rattle.zf_term.specs.declared.resolved.Resolved.TheOpen.{Resolved-F}
pub use Rattle.zf_term.specs.declared.resolved.Resolved.TheViews.{out-Resolved, roll-out-Resolved, roll-Range, roll-Resolved, roll-ResolvedLink}
pub use Rattle.zf_term.specs.declared.resolved.ResolvedLink.{ResolvedLink}
pub use Rattle.zf_term.specs.declared.ztype.ZType.{fold-roll-ZType, ind-ZType, map-ZType, out-ZType, roll-out-ZType, roll-ZType, ZType}
pub use Rattle.zf_term.specs.declared.ztype.ZType.TheOpen.{ZType-F}
