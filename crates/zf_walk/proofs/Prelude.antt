-- What the proofs of this crate take from elsewhere, passed on from one place.
pub use Rattle.std.proofs.Common.{◌*◌, ◌++◌, ◌+◌, ◌-◌, ◌<◌, ◌^◌, ◌∙◌, ◌∷◌, ◌≡◌, ◌≤◌, ◌⊎◌, [], ap, arith, Bool, cond, drop, false, get_or, Global, inl, inr, length, length-append, List, ltb, None, Option, refl, set, Some, subst, suc, sym, take, true, Vec, zero, ℕ, w64}
pub use Rattle.std.proofs.lemmas.Bool.{cases_eq, cases_lt, false≢true, le-ltb, lt-ltb}
pub use Rattle.std.proofs.lemmas.Cmp.{tied_itself}
pub use Rattle.std.proofs.lemmas.List.{append-nil, drop_more, get_or-set_other, get_or-set_same, get_or-take, get_or_append_left, get_or_default, length-set, length-take, length-take-le, nil_from_length, take-take, take_all, drop_all}
pub use Rattle.std.proofs.lemmas.Option.{get_or_from_slice_get, slice_get-get_or, slice_get_read, slice_get_within}
pub use Rattle.std.specs.Cmp.{IsTotalOrder}
pub use Rattle.std.specs.Cmp.Lexicographic.{lists_total, slice_cmp}
pub use Rattle.std.specs.Option.{option_copied}
pub use Rattle.std.specs.Ordering.{ordering_reverse, ordering_then}
pub use Rattle.std.specs.Prelude.{◌≢◌, AllPairs, Contains, IfSome, IsSomeAnd, IsTrue, slice_get, ◌/◌, ◌%◌, bit_and, bit_or, max, min}
pub use Rattle.std.specs.declared.cmp.Ordering.{Ordering}
pub use Rattle.std.specs.declared.cmp.Ordering.TheVariants.{Equal, Greater, Less}
pub use Rattle.zf_walk.specs.{Ahead, AreDueWithin, AreTables, AreUsed, AreWithin, combinations, ComesAfter, cut, Event, first_of, FollowUsed, HasLength, HaveOneTruth, HavePlaces, is_reached, IsAhead, IsCount, IsDueTest, IsEvent, IsFrontOf, IsLater, IsReached, IsRest, IsRowOf, IsTruthOf, IsUpTo, IsWalked, number, past, picked, reaches, TiesAreEqual, under, EndsWithNone, HasOneList, Resumes, StartsWithAll, StaysWithinBound, TakesFirst, HasBit, IsMarked, IsSeen, unseen, Fits, IsTableOf, Keeps, told}
pub use Rattle.zf_walk.specs.Conjuncts.{Conjuncts}
pub use Rattle.zf_walk.specs.declared.judge.Truth.{Truth}
pub use Rattle.zf_walk.specs.declared.judge.Truth.TheVariants.{False, Out, True}
pub use Rattle.zf_walk.specs.declared.table.Table.{Table}
pub use Rattle.zf_walk.specs.declared.table.Used.{Used}
pub use Rattle.std.proofs.Math.Seq.{get_or-append_seam}
pub use Rattle.std.proofs.Math.Nat.{mod-lt, mul-le-mul_left, le-div_iff_mul-le}
pub use Rattle.std.proofs.lemmas.Nat.Bits.{bit_at-lt, bit_at-zero, bit_at_and, bit_at_or, bit_at_above, bit_at_set_other, bit_at_set_same}
