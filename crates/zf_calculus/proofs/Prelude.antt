-- What the proofs of this crate take from elsewhere, passed on from one place.
pub use Rattle.std.proofs.Common.{if◌then◌else◌, ◌++◌, ◌+◌, ◌-◌, ◌<◌, ◌↔◌, ◌∙◌, ◌∷◌, ◌≡◌, ◌≤◌, ◌⊎◌, [], add-one, ap, arith, Bool, drop, Err, false, get_or, IfErr, IfOk, inl, inr, length, length-append, List, map, None, Ok, Option, refl, Result, rules, slice_get, Some, subst, suc, sym, take, true, true≢false, zero, ℕ}
pub use Rattle.std.proofs.Math.ListN.{length-set, set}
pub use Rattle.std.proofs.lemmas.List.{append-nil, append_assoc, drop-set-lt, drop_all, get_or-map, get_or_default, length-map, map-append, map-set, nil_from_length, take_all, take_more_set, take_rest}
pub use Rattle.std.proofs.lemmas.List.Sums.{sum_by-append, sum_by-cons}
pub use Rattle.std.proofs.lemmas.Option.{none-some, same_Some, slice_get-get_or, slice_get_past}
pub use Rattle.std.proofs.lemmas.Result.{IfOk-weaker, on_ok_weaker}
pub use Rattle.std.specs.List.{AllByRecursion, sum_by}
pub use Rattle.std.specs.Str.{bytes_eq}
pub use Rattle.std.specs.Vec.Iter.{into_iter_items}
pub use Rattle.zf_reference.specs.{place_in}
pub use Rattle.zf_tree.specs.declared.symbol.Relation.TheVariants.{Equal}
pub use Rattle.zf_tree.specs.declared.span.Span.{Span}
pub use Rattle.zf_term.proofs.Places.{AreFirst, in_full, unmoved}
pub use Rattle.zf_term.proofs.ResolvedSeen.{new_link, of-Chain, of-link, of-Name}
pub use Rattle.zf_term.proofs.SameNames.{is_itself, is_same, swapped}
pub use Rattle.zf_term.proofs.SetsSeen.{of-Either}
pub use Rattle.zf_term.proofs.Walk.{at_end, at_step, dropped, pushed}
pub use Rattle.zf_data.specs.{all_of}
pub use Rattle.zf_term.specs.declared.conjunct.Batch.{Batch}
pub use Rattle.zf_term.specs.{AreFew, batch_of, chain, Comp, comp_of, conjunct_of, DeclaredSet, found_as, HasLeft, IsLow, IsTooLarge, IsWithin, KeepsTo, later, link, links, moved, no_links, nodes, numbering, Offence, one_holds, reference, resolved_link_of, resolved_of, ResolvedTree, Schema, schema_of, set_count, set_nodes, set_of, sets_of, sides, sides_span, too_large, type_of}
pub use Rattle.zf_term.specs.declared.conjunct.Conjunct.{Conjunct}
pub use Rattle.zf_term.specs.declared.fault.Limit.{Limit}
pub use Rattle.zf_term.specs.declared.schema.Component.{Component}
pub use Rattle.zf_term.specs.declared.schema.Domain.{Domain}
pub use Rattle.zf_term.specs.declared.schema.Flat.{Flat}
pub use Rattle.zf_term.specs.declared.resolved.Resolved.{Resolved}
pub use Rattle.zf_term.specs.declared.resolved.ResolvedLink.{ResolvedLink}
pub use Rattle.zf_term.specs.declared.ztype.ZType.{ZType}
pub use Rattle.zf_shape.proofs.Heights.{below_nodes}
pub use Rattle.zf_calculus.specs.{Agree, Agrees, all_unchanged, AreAt, AreOnce, carried, Clashes, comp, comp_named, conjoined, constrained, counted, decorated, delta, disjoined, disjoined_over, either_comp, equalities, equality, grown, IfStopped, IsNext, measured, new_place, OneClashes, place_found, place_named, place_of, place_or, prime, sets_on, Stops, unchanged, with_comp, with_comps, xi, schema_with, either_comps, empty_schema}
pub use Rattle.zf_constraints.specs.{enriched, constraints}
pub use Rattle.std.proofs.Math.Path.{fun_ext}
pub use Rattle.zf_shape.proofs.Nodes.{none_left}
