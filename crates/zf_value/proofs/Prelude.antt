-- What the proofs of this crate take from elsewhere, passed on from one place.
pub use Rattle.std.proofs.Common.{◌*◌, ◌++◌, ◌+◌, ◌-◌, ◌<◌, ◌↔◌, ◌∙◌, ◌∷◌, ◌≡◌, ◌≤◌, ◌⊎◌, [], add-one, ap, arith, Bool, drop, eqb, Equal, Err, false, get_or, Global, Greater, inl, inr, IsTrue, length, length-append, length-drop, length-take, Less, List, ltb, map, None, not, of_z, Ok, Option, Ordering, refl, Result, rules, Some, subst, suc, sym, take, to_z, true, Vec, w64, zero, ℕ, ℤ, ⊎_elim}
pub use Rattle.std.proofs.lemmas.Bool.{cases_lt, eqb-true, lt-ltb, ltb-false, ltb-true}
pub use Rattle.std.proofs.lemmas.Cmp.{tied_itself}
pub use Rattle.std.proofs.lemmas.Int.{ints, quot-rem, quot_is, rem_below, rem_is, to_z-of_z}
pub use Rattle.std.proofs.lemmas.List.{append-nil, get_or-drop, get_or-take, get_or_default, take-append-drop, take_rest}
pub use Rattle.std.proofs.lemmas.List.Sorted.{all_adjacent_more, Contains-permutation, IsPartitionPoint-from_clause, IsPermutation-sym}
pub use Rattle.std.specs.Cmp.{int_cmp_is, nat_cmp_is}
pub use Rattle.std.specs.Cmp.Lexicographic.{slice_cmp}
pub use Rattle.std.specs.Int.RustNames.{int_div, int_rem, unsigned_abs}
pub use Rattle.std.specs.List.{AllAdjacentBelow, AllByRecursion, Contains, dedup, fold, AllWithin, HoldsAt}
pub use Rattle.std.specs.List.Sorted.{IsBinarySearchResult, IsNonDecreasingBy, IsPartitionedBy, IsPartitionPoint, IsPermutation, IsSearchInRange, IsSorted}
unfoldable pub use Rattle.std.specs.List.Sorted.{IsStrictlySortedBy}
pub use Rattle.std.specs.Option.{is_some, SomeIff}
pub use Rattle.std.specs.Ordering.{int_cmp, is_eq, is_le, is_lt, nat_cmp, ordering_index, ordering_reverse, ordering_then}
pub use Rattle.std.specs.Prelude.{◌*ℤ◌, ◌+ℤ◌, ◌-ℤ◌, ◌<ℤ◌, ◌≤ℤ◌, FitsSigned, MatchOption, neg_ℤ, negsuc, pos}
pub use Rattle.std.specs.Result.{IfOk, is_ok}
pub use Rattle.std.specs.declared.alloc.AllocError.{AllocError}
pub use denote.Ref.{Bor}
pub use Rattle.zf_value.specs.{AreRelated, DivisionsTell, IsAscending, IsDivision, IsInDomain, IsInRange, IsKept, IsMember, IsNumber, IsPairOf, IsPartOf, IsRemainder, IsSelected, IsSetOf, level_of, level_order, ListsNumbers, members, members_at, number_at, number_of, OnNumber, OnNumbers, pair, parts, parts_at, place_at, place_beside, place_of_first, Relates, value_of, value_order, greatest, height, height-SetOf, height-Tuple, IsOrdered}
unfoldable pub use Rattle.zf_value.specs.{AddsPairs, AreAmong, AreElements, GivesJust, HaveSameMembers, IsApplied, IsBetweenNumbers, IsComposition, IsDifference, IsDisplay, IsDomain, IsDomainRestriction, IsDomainSubtraction, IsElement, IsGathered, IsImage, IsIntersection, IsInterval, IsInverse, IsJoined, IsModulus, IsNegation, IsOverriding, IsProduct, IsQuotient, IsRange, IsRangeRestriction, IsRangeSubtraction, IsSetDifference, IsSize, IsSum, IsUnion}
pub use Rattle.zf_value.specs.declared.TheConstants.{SET_MAX}
pub use Rattle.zf_value.specs.declared.part.Keep.{Keep}
pub use Rattle.zf_value.specs.declared.part.Keep.TheVariants.{Members, Others}
pub use Rattle.zf_value.specs.declared.part.Part.TheVariants.{First, Second, Whole}
pub use Rattle.zf_value.specs.declared.plain.Value.{Elem, ind-Value, Int, map-Value, out-roll-Value, out-Value, roll-out-Value, roll-Value, SetOf, Tuple, Value}
pub use Rattle.zf_value.specs.declared.plain.Value.TheOpen.{Value-F}
pub use Rattle.zf_value.specs.declared.plain.Value.TheVariants.{outs-Elem, outs-Int, outs-SetOf, outs-Tuple, rolls-Int, rolls-SetOf}
pub use Rattle.zf_value.specs.declared.value.Form.{Form}
pub use Rattle.zf_value.specs.declared.value.Outcome.{Outcome}
pub use Rattle.zf_value.specs.declared.value.Outcome.TheVariants.{Is, Out, Undefined}
pub use Rattle.std.proofs.lemmas.List.Elements.{Contains-get_or, AllWithin-more, at_read}
pub use Rattle.zf_value.specs.contracts.plain.ValueOrd.TheImpl.Laws.{total-law, is}
pub use Rattle.std.proofs.lemmas.Result.{IfOk-weaker}
pub use Rattle.std.proofs.lemmas.Fn.{always_returns_same}
