-- What the proofs of this crate take from elsewhere, passed on from one place.
pub use Rattle.std.proofs.Common.{◌++◌, ◌+◌, ◌<◌, ◌↔◌, ◌∙◌, ◌∷◌, ◌≡◌, ◌≤◌, [], add-one, ap, arith, get_or, inl, inr, length, List, map, max, None, Option, refl, Some, subst, suc, sym, take, zero, ℕ, ⊎_elim, Err, IfOk, Ok, OnOk, Result, ◌-◌}
pub use Rattle.std.specs.Prelude.{◌⊎◌, min, replicate, slice_get, IfSome, ◌==◌, false}
pub use Rattle.zf_reference.specs.declared.reference.Reference.{Reference}
pub use Rattle.zf_reference.specs.declared.reference.Reference.TheVariants.{Component, Global, Local}
pub use Rattle.zf_value.specs.declared.value.Outcome.{Outcome}
pub use Rattle.zf_value.specs.declared.value.Truth.{Truth}
pub use Rattle.zf_value.specs.declared.plain.Value.{Value}
pub use Rattle.zf_term.specs.{absent, binary, bracket, comprehension, chain, constant, Defined, empty_set, link, listed, no_links, no_ranges, no_terms, number, part_of, present, quantified, range, range_of, Ranges, ranges, reference, resolved_of, ResolvedLinks, ResolvedPart, ResolvedTree, term, unary}
pub use Rattle.zf_term.specs.ResolvedTrees.{ResolvedTrees}
pub use Rattle.zf_meaning.specs.{Context, Environment, environment_of, HasOutcome, HaveRanges, in_row, IsConstraint, IsTruth, longer, outcome_in, outcome_or, within, all_rows, IsAmong, infinite_in, unended}
pub use Rattle.zf_outcome.specs.{IsConjunction, IsForAll, IsQuantified, IsTold, one_out, one_undefined, repeated, Several, values, IsDisjunction, opposite}
pub use Rattle.zf_lift.specs.{all_need, AreEach, AreLifted, AreSame, AreSameLinks, AreSameRanges, at, IsLifted, IsLonger, IsSame, IsSamePart, links_need, need, part_need, place, ranges_need}
pub use Rattle.zf_resolved.specs.{all_renamed, links_renamed, part_renamed, range_renamed, ranges_renamed, renamed}
unfoldable pub use Rattle.zf_unfold.specs.{IsSetNamed, IsUnfolded, named}
pub use Rattle.zf_unfold.specs.{AreNamed, IsBase, named_by, fewer, implied, instance, others, over, inside, instances, instances_of, universal_of, ranges_of}
pub use Rattle.std.proofs.lemmas.List.{append_assoc, length-append}
pub use Rattle.zf_tree.specs.declared.operator.Operator.TheVariants.{Connective}
pub use Rattle.zf_tree.specs.declared.operator.Unary.TheVariants.{Not}
pub use Rattle.zf_tree.specs.declared.symbol.Quantifier.TheVariants.{ForAll}
pub use Rattle.zf_term.proofs.ResolvedSeen.{of-Binary, of-Bracket, of-Quantified, of-Unary, range-seen, of-Name}
pub use Rattle.zf_term.specs.declared.resolved.Range.{Range}
pub use Rattle.zf_term.specs.declared.resolved.Resolved.{Resolved}
pub use Rattle.zf_value.specs.declared.value.Outcome.TheVariants.{Is, Undefined}
pub use Rattle.zf_value.specs.declared.value.Truth.TheVariants.{True, False, Out}
pub use Rattle.zf_value.specs.{AreFrom, IsMember, members}
pub use Rattle.std.proofs.lemmas.Result.{IfOk-weaker, on_ok_weaker}
pub use Rattle.zf_lift.specs.declared.lifted.Lifted.{Lifted}
pub use Rattle.zf_lift.proofs.Longer.{itself, further}
pub use Rattle.zf_lift.proofs.Each.{each_also, whole, each_done}
pub use Rattle.zf_tree.specs.declared.symbol.Connective.TheVariants.{And, Implies}
pub use Rattle.zf_tree.specs.declared.span.Span.{Span}
