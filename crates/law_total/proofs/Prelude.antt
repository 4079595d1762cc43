-- What the proofs of this crate take from elsewhere, passed on from one place.
pub use Rattle.std.proofs.Common.{◌++◌, ◌+◌, ◌<◌, ◌^◌, ◌↔◌, ◌∙◌, ◌∷◌, ◌≡◌, ◌≤◌, ◌⊎◌, [], ap, arith, Equal, get_or, Greater, inl, inr, length, length-take, Less, List, map, None, Option, Ordering, refl, Some, subst, suc, sym, take, zero, ℕ, ℤ, ⊎_elim}
pub use Rattle.std.proofs.lemmas.Bool.{cases_eq, cases_lt}
pub use Rattle.std.specs.Ordering.{ordering_reverse}
pub use Rattle.std.specs.Prelude.{◌+ℤ◌, ◌-ℤ◌, ◌<ℤ◌, ◌≢◌, ◌≤ℤ◌, All, AllPairs, Contains, FitsSigned, neg_ℤ, negsuc, pos, slice_get}
pub use Rattle.zf_walk.proofs.Lists.{AllPairs-cons, AllPairs-head, AllPairs-nil, AllPairs-tail, Contains-cases, Contains-either, Contains-head, Contains-later, Contains-left, Contains-nil, Contains-right}
pub use Rattle.zf_value.proofs.Among.{ascending-take, contained, every-take, every_at, every_from, member, not_below_itself}
pub use Rattle.zf_value.proofs.Exact.{exact}
pub use Rattle.zf_value.proofs.Seen.{is_Int, no_Int, parts-Tuple, same_number}
pub use Rattle.zf_value.specs.{AreFrom, IsAscending, IsBetween, IsFunctional, IsInDomain, IsInjective, IsInRange, IsMember, IsPairOf, IsRelationThat, IsSetOf, IsTotal, members, pair, parts, Relates, value_order, IsDifference, IsInterval, IsModulus, IsNegation, IsProduct, IsQuotient, IsSum}
unfoldable pub use Rattle.zf_value.specs.{AreAmong, AreElements, IsApplied, IsComposition, IsCross, IsDisplay, IsDomain, IsDomainRestriction, IsDomainSubtraction, IsElement, IsImage, IsIntersection, IsInverse, IsOverriding, IsPower, IsRange, IsRangeRestriction, IsRangeSubtraction, IsSetDifference, IsSize, IsUnion}
pub use Rattle.std.specs.List.{AllByRecursion}
pub use Rattle.zf_value.specs.declared.TheConstants.{SET_MAX}
pub use Rattle.zf_value.specs.declared.value.Outcome.{Outcome}
pub use Rattle.zf_value.specs.declared.value.Outcome.TheVariants.{Is, Out, Undefined}
pub use Rattle.zf_value.specs.declared.value.Truth.{Truth}
pub use Rattle.zf_value.specs.declared.plain.Value.{Elem, Int, SetOf, Tuple, Value}
pub use Rattle.zf_term.specs.{abbreviation, constructor, Defined, Definition, free_type, given_set, schema, basic, int, no_types, power, product, Ty, type, Tys, binary, ResolvedTree, absent, bracket, comprehension, chain, constant, empty_set, link, listed, no_links, no_ranges, no_terms, number, present, quantified, range, Ranges, reference, ResolvedLinks, ResolvedPart, term, unary}
pub use Rattle.zf_meaning.specs.{AddsSize, AreAccepted, AreComplete, AreElementsIf, AreLinked, AreSizes, Builds, constant_truth, Context, element, element_count, Environment, given_sets, globally, HasOutcome, HaveOutcomes, HaveRanges, infinite_right, IsAccepted, IsBuilt, IsBuiltBy, IsBuiltOver, IsConstraint, IsOutOfBounds, IsRefusal, IsSizeFault, IsStated, IsTruth, IsTypeSet, IsWithinBounds, names, outcome_in, row_value, type_number, with_given, within, AreCarriers, IsCarrier, IsTypeSetIf, AreWorkedOut, IsEnvironment, IsOutcomeOf, IsConstantOutcome, IsNumberSet, least}
unfoldable pub use Rattle.zf_families.specs.{AreArrows, IsArrow}
pub use Rattle.zf_families.specs.{IsOfKind}
pub use Rattle.zf_outcome.specs.{BinaryOutcome, Compares, HasTwo, Holds, HoldsOf, InfixOutcome, IsAtom, IsConjunction, IsConnected, IsExists, IsExistsOne, IsForAll, IsIn, IsLink, IsOver, IsQuantified, IsTest, IsTold, ListedOutcome, OnBoth, one_more, one_out, one_undefined, OnOne, OnSeveral, opposite, PrefixOutcome, repeated, Several, SignOutcome, Tells, UnaryOutcome, values, connected, conjunction, connective_of}
pub use Rattle.zf_meaning.specs.declared.sizes.Size.{Size}
pub use Rattle.zf_term.specs.declared.extent.Infinite.TheVariants.{Num, Nat, Nat1}
pub use Rattle.std.specs.Cmp.{IsTotalOrder}
pub use Rattle.zf_value.specs.contracts.plain.ValueOrd.TheImpl.Laws.{total-law}
pub use Rattle.zf_tree.specs.declared.symbol.Connective.{Connective}
pub use Rattle.zf_meaning.proofs.Connecting.{connected-told, conjoined, twice, told-by}
pub use Rattle.zf_meaning.proofs.Unique.{one_truth, one_constraint, one_build, one_told_of}
pub use Rattle.zf_term.specs.declared.extent.Infinite.{Infinite}
