-- What the proofs of this crate take from elsewhere, passed on from one place.
pub use Rattle.std.proofs.Common.{◌++◌, ◌+◌, ◌-◌, ◌<◌, ◌^◌, ◌∙◌, ◌∷◌, ◌≡◌, ◌≤◌, ◌⊎◌, [], add-one, ap, ap₂, arith, Bool, cond, eqb, false, get_or, IfOk, IfSome, inl, inr, length, length-append, List, map, max, None, Option, refl, rules, Some, subst, suc, sym, take, true, zero, ℕ, ⊎_elim, Err, Ok, of_z, to_z}
pub use Rattle.std.proofs.lemmas.Bool.{cases_Bool, cases_lt, eqb-true, false≢true, eq-eqb, ltb-true}
pub use Rattle.std.proofs.lemmas.List.{length-map, get_or_default}
pub use Rattle.std.proofs.lemmas.Result.{IfOk-weaker}
pub use Rattle.std.specs.Option.{option_copied, SomeIff}
pub use Rattle.std.specs.Prelude.{AllPairs, Contains, nat_le, slice_get, unwrap_or, FitsSigned, IsSomeAnd, fold, if◌then◌else◌, neg_ℤ, negsuc, pos, replicate, unsigned_abs, ℤ, ◌*ℤ◌, ◌+ℤ◌, ◌-ℤ◌, ◌<ℤ◌, ◌≢◌, ◌≤ℤ◌}
pub use Rattle.std.specs.declared.cmp.Ordering.TheVariants.{Less, Greater}
pub use Rattle.zf_walk.proofs.Picks.{range-is, AreWithin-push, length-picked, nth-at, picked-push}
pub use Rattle.zf_walk.specs.{Ahead, AreAllAhead, AreAscending, AreDueWithin, AreWithin, HasLength, IsRowOf, picked, IsBound, IsEvents}
pub use Rattle.zf_plan.proofs.Alike.{itself}
pub use Rattle.zf_plan.specs.{IsKeyOf, SayTheSame, StaysIn}
pub use Rattle.zf_plan.specs.Choices.{Leaves}
pub use Rattle.zf_reference.specs.declared.reference.Reference.{Reference}
pub use Rattle.zf_reference.specs.declared.reference.Reference.TheVariants.{Component, Global, Local}
pub use Rattle.zf_value.proofs.Among.{members-take_more, take_all}
pub use Rattle.zf_value.proofs.Exact.{exact, cmp_is}
pub use Rattle.zf_value.proofs.Seen.{members-SetOf, is_Int, number_of-Int, same_number}
pub use Rattle.zf_value.specs.{IsAscending, IsMember, members, value_order, AreFrom}
pub use Rattle.std.specs.List.{AllByRecursion}
pub use Rattle.zf_value.specs.declared.value.Outcome.{Outcome}
pub use Rattle.zf_value.specs.declared.value.Outcome.TheVariants.{Is, Out, Undefined}
pub use Rattle.zf_value.specs.declared.plain.Value.{Value, Int, out-Value}
pub use Rattle.zf_tree.specs.declared.symbol.Relation.TheVariants.{Equal}
pub use Rattle.zf_term.proofs.ResolvedSeen.{link-seen, of-Binary, of-Chain, of-Name, of-Unary, of-Number}
pub use Rattle.zf_term.specs.{absent, binary, bracket, comprehension, chain, Comp, comp_of, conjunct_of, constant, empty_set, link, links, listed, no_links, number, present, quantified, range_of, reference, references, resolved_link_of, resolved_of, ResolvedPart, ResolvedTree, schema_of, unary}
pub use Rattle.zf_term.specs.declared.conjunct.Conjunct.{Conjunct}
pub use Rattle.zf_term.specs.declared.resolved.Resolved.{Resolved}
pub use Rattle.zf_term.specs.declared.resolved.ResolvedLink.{ResolvedLink}
pub use Rattle.zf_meaning.specs.{Context, Environment, environment_of, HasOutcome, in_row, IsTruth, outcome_in, value_or, within, infinite_in, infinite_right, Builds, IsBuilt, IsBuiltOver, IsConstraint}
pub use Rattle.zf_outcome.specs.{Holds, InfixOutcome, IsAtom, SignOutcome, IsLink, IsQuantified, IsTold, one_out, one_undefined, Several, values}
pub use Rattle.zf_ranges.specs.{AreAllRanges, AreRanges, first_held, IsComponentRange, later_held}
pub use Rattle.zf_enum.specs.{AddsSpreads, AreCandidates, AreRuledOut, AreSides, AreSpreads, due, due_of, Equates, Fixes, follows_outcome, GoesOn, greatest_place, HasKey, HasKeyWith, HasPlace, HasTruth, is_among, is_component, IsDifferenceOf, IsKept, IsKey, IsKeyed, IsKeyOfValue, IsName, IsOnly, IsRuledOut, IsSmall, IsIntervalAhead, IsIntervalOf, IsSpread, IsThere, key_side, need, place_named, place_up_to, property, uses, uses_of, EventsResume, OneEvents, OneRanges, TestsAreBound, number_of}
pub use Rattle.zf_enum.specs.declared.property.Property.{Property}
pub use Rattle.std.specs.Int.{cast_signed, cast_unsigned, w32, w64}
pub use Rattle.std.proofs.lemmas.Int.{ints, to_z-of_z, unsigned_abs-mul}
pub use Rattle.zf_tree.specs.declared.symbol.Relation.{Relation}
pub use Rattle.zf_tree.specs.declared.operator.Unary.{Unary}
pub use Rattle.zf_tree.specs.declared.operator.Operator.{Operator}
pub use Rattle.zf_enum.specs.declared.interval.Interval.{Interval}
pub use Rattle.zf_enum.specs.Spans.{Spans}
pub use lib.IntN.{*ℤ-negsuc, *ℤ_comm, suc_ℤ-*ℤ, zero-*ℤ}
pub use Rattle.std.proofs.lemmas.Cmp.{int_ranked, tied_itself}
pub use Rattle.std.specs.Ordering.{int_cmp, ordering_index}
pub use Rattle.zf_tree.specs.declared.symbol.Infix.{Infix}
pub use Rattle.zf_tree.specs.declared.operator.Operator.TheVariants.{Function, Connective, Generic, Application, Image}
pub use Rattle.std.proofs.lemmas.Option.{none-some, get_or_from_slice_get}
pub use Rattle.zf_tree.specs.declared.span.Span.{Span}
