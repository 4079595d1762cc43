-- What the proofs of this crate take from elsewhere, passed on from one place.
pub use Rattle.std.proofs.Common.{◌++◌, ◌+◌, ◌<◌, ◌∙◌, ◌∷◌, ◌≡◌, ◌≤◌, ◌⊎◌, [], ap, append-nil, append_assoc, arith, Bool, false, inl, inr, length, length-append, List, None, Option, refl, Some, subst, sym, take, true, ℕ, ℤ, ⊎_elim}
pub use Rattle.std.proofs.lemmas.Bool.{and_parts, cases_eq, cases_lt, or_cases}
pub use Rattle.std.specs.Cmp.{IsTotalOrder}
pub use Rattle.std.specs.Cmp.Lexicographic.{lists_total, slice_cmp}
pub use Rattle.std.specs.Prelude.{◌≢◌, AllPairs, Contains, FitsSigned, IsTrue, slice_get}
pub use Rattle.std.specs.declared.cmp.Ordering.{Ordering}
pub use Rattle.std.specs.declared.cmp.Ordering.TheVariants.{Greater, Less}
pub use Rattle.zf_walk.specs.{ComesAfter, cut, Event, IsBound, IsCount, IsDueTest, IsEvent, IsEvents, IsNumberOfTests, IsReached, IsUpTo, IsWalked}
pub use Rattle.zf_walk.specs.Conjuncts.{Conjuncts}
pub use Rattle.zf_walk.specs.declared.judge.Truth.{Truth}
pub use Rattle.zf_walk.specs.declared.judge.Truth.TheVariants.{False, Out, True}
pub use Rattle.zf_value.specs.{IsAscending, IsMember, members, parts, value_order}
pub use Rattle.std.specs.List.{AllByRecursion}
pub use Rattle.zf_value.specs.declared.plain.Value.{Elem, Int, SetOf, Tuple, Value}
pub use Rattle.zf_term.specs.{basic, carrier, Comp, DeclaredSet, DeclaredSets, int, no_sets, no_types, plain, power, product, ResolvedTree, Schema, set, sets_of, sides, Ty, type, Tys}
pub use Rattle.zf_finite.specs.{bounds, one_bounds, IsFinite}
pub use Rattle.std.specs.Option.{is_none}
pub use Rattle.zf_meaning.specs.{Environment, globally, HasOutcome, type_number, AreOfTypes, IsCarrier, IsExistingElement, IsOfType, infinite_in}
pub use Rattle.law_total.proofs.Listed.{Decided, decided_all, decided_both, decided_either, decided_in, decided_lists, decided_not, decided_same, decided_some, decided_then, HasSome, Listed, listed_either, listed_kept, listed_none, listed_pairs, listed_same}
pub use Rattle.law_total.proofs.Naturals.{decided_le, decided_lt, first_or_none, listed_below}
pub use Rattle.law_total.proofs.Orders.{distinct_of}
pub use Rattle.law_total.proofs.Terms.{some_outcome}
pub use Rattle.law_total.proofs.Values.{listed_members, same_row, same_value}
pub use Rattle.zf_ranges.specs.{AreRanges, first_held, IsCarrierOut, IsComponentRange, IsFirstOut, IsHeld, IsInCarrier, IsInOne, IsInPlain, IsInSet, IsInSets, IsNoneOut, IsOneOut, IsOutAt, IsPlainOut, IsSetOut, later_held, has_endless}
pub use Rattle.zf_lines.specs.{AreEventsUpTo, breaks, ends, HasEvents, Hold, IsBelow, IsTestsLine, IsWritten, lines, pauses, Wording}
pub use Rattle.zf_lines.specs.declared.fault.Status.{Status}
pub use Rattle.law_total.proofs.Rows.{AreTold, fronts_of, same_ordering}
pub use Rattle.zf_enum.specs.{AreEvents, IsBoundOf, Portion, property, portion}
pub use Rattle.zf_walk.proofs.Lists.{AllPairs-across, AllPairs-back, AllPairs-cons, AllPairs-head, AllPairs-nil, AllPairs-tail, Contains-cases, Contains-either, Contains-head, Contains-later, Contains-left, Contains-nil, Contains-right}
