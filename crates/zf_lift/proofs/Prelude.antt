-- What the proofs of this crate take from elsewhere, passed on from one place.
pub use Rattle.std.proofs.Common.{◌++◌, ◌+◌, ◌<◌, ◌↔◌, ◌∙◌, ◌∷◌, ◌≡◌, ◌≤◌, [], add-one, ap, arith, Bool, false, get_or, inl, inr, length, List, map, None, Option, refl, Some, subst, suc, sym, take, true, zero, ℕ, ⊎_elim, SomeIff, true≢false}
pub use Rattle.std.specs.Prelude.{if◌then◌else◌, slice_get, Err, IfOk, IfSome, Ok, Result, replicate, ◌&&◌, is_some}
pub use Rattle.zf_reference.specs.declared.reference.Reference.{Reference}
pub use Rattle.zf_reference.specs.declared.reference.Reference.TheVariants.{Component, Global, Local}
pub use Rattle.zf_value.specs.declared.value.Outcome.{Outcome}
pub use Rattle.zf_value.specs.declared.value.Truth.{Truth}
pub use Rattle.zf_value.specs.declared.plain.Value.{Value}
pub use Rattle.zf_tree.specs.declared.operator.Listed.{Listed}
pub use Rattle.zf_tree.specs.declared.operator.Operator.{Operator}
pub use Rattle.zf_tree.specs.declared.operator.Unary.{Unary}
pub use Rattle.zf_tree.specs.declared.symbol.Constant.{Constant}
pub use Rattle.zf_tree.specs.declared.symbol.Quantifier.{Quantifier}
pub use Rattle.zf_tree.specs.declared.symbol.Relation.{Relation}
pub use Rattle.zf_term.proofs.ResolvedSeen.{link-seen, new_link, new_range, of-Binary, of-Bracket, of-Comprehension, of-Chain, of-Constant, of-EmptySet, of-link, of-Listed, of-Name, of-Number, of-Quantified, of-range, of-Unary, range-seen}
pub use Rattle.zf_term.specs.{absent, binary, bracket, comprehension, chain, constant, Defined, empty_set, link, links, listed, no_links, no_ranges, no_terms, number, part_of, present, quantified, range, range_of, Ranges, ranges, reference, resolved_link_of, resolved_of, ResolvedLinks, ResolvedPart, ResolvedTree, term, terms, unary, references}
pub use Rattle.zf_term.specs.ResolvedTrees.{ResolvedTrees}
pub use Rattle.zf_term.specs.declared.extent.Infinite.{Infinite}
pub use Rattle.zf_extent.specs.{direct, extent_found, extent_set, is_membership, constant_set}
pub use Rattle.zf_meaning.specs.{AreLinked, Builds, Context, Environment, environment_of, HasOutcome, infinite_right, IsBuilt, IsBuiltBy, IsBuiltOver, IsConstraint, IsOutOfBounds, IsTruth, IsWithinBounds, longer, outcome_in, outcome_or, within, IsBehind, HaveRanges, IsConstantOutcome, unended, AreBelow, IsBelow, UsesFirst, constant_truth, infinite_in}
pub use Rattle.zf_outcome.specs.{HasTwo, IsConjunction, IsConnected, IsDisjunction, IsEquivalence, IsExists, IsExistsOne, IsForAll, IsLink, IsOver, IsQuantified, IsTold, one_out, one_undefined, opposite, Several, values, repeated}
pub use Rattle.zf_lift.specs.{AreAllLifts, AreEach, AreLifted, AreSame, AreSameLinks, AreSameRanges, at, Follows, is_liftable, IsLater, IsLifted, IsLinkLift, IsLonger, IsNamed, IsRangeLift, IsSame, IsSamePart, need, place, Wherever, variables_of}
pub use Rattle.zf_lift.specs.Lifts.{Lifts}
unfoldable pub use Rattle.zf_lift.specs.{AreLifts, AreLinkLifts, AreRangeLifts, IsClosed, IsLift, IsPartLift}
pub use Rattle.std.proofs.lemmas.List.{length-append, length-replicate, append_assoc}
pub use Rattle.zf_tree.specs.declared.span.Span.{Span}
