-- What the proofs of this crate take from elsewhere, passed on from one place.
pub use Rattle.std.proofs.Common.{◌&&◌, ◌*◌, ◌++◌, ◌+◌, ◌-◌, ◌<◌, ◌^◌, ◌↔◌, ◌∙◌, ◌∷◌, ◌≡◌, ◌≤◌, ◌⊎◌, [], add-one, ap, arith, Bool, cond, drop, Equal, false, get_or, Greater, inl, inr, length, Less, List, ltb, map, min, not, Ordering, refl, Result, subst, suc, sym, take, true, zero, ℕ, ⊎_elim, ap₂}
pub use Rattle.std.proofs.Math.Nat.{mul-le-mul_left, mul_assoc, mul_comm, pow-succ', pow-zero}
pub use Rattle.std.proofs.lemmas.Bool.{and_from, and_parts, both_ways, cases_lt, false≢true, iff_false, lt-ltb, ltb-true}
pub use Rattle.std.proofs.lemmas.Cmp.{tied_itself}
pub use Rattle.std.proofs.lemmas.List.{length-append, length-drop, length-map, length-take-le, map_more, nil_from_length, take-append-drop}
pub use Rattle.std.proofs.lemmas.Result.{IfOk-weaker}
pub use Rattle.std.specs.List.{AllByRecursion, filter, flat_map}
pub use Rattle.std.specs.Ordering.{is_eq, is_lt, ordering_reverse, ordering_then}
pub use Rattle.std.specs.Prelude.{IsTrue}
pub use Rattle.std.specs.Result.{IfOk}
pub use Rattle.std.specs.Vec.Iter.{into_iter_items}
pub use Rattle.std.specs.declared.alloc.AllocError.{AllocError}
pub use Rattle.zf_value.proofs.Among.{every_also, every_at, every_from, member_at, members-append, members-take_more, not_below_itself, take_all}
pub use Rattle.zf_value.proofs.Exact.{cmp_is, exact, ties}
pub use Rattle.zf_value.proofs.Seen.{members-SetOf, parts-Tuple}
pub use Rattle.zf_value.specs.{AreFrom, IsAscending, IsBetween, IsFunctional, IsInjective, IsMember, IsRelationThat, IsSetOf, IsSubset, IsTotal, members, pair, parts, Relates, row_order, value_order, level_order}
unfoldable pub use Rattle.zf_value.specs.{AreAmong, IsCross, IsPower}
pub use Rattle.zf_value.specs.declared.TheConstants.{SET_MAX}
pub use Rattle.zf_value.specs.declared.plain.Value.{out-Value, SetOf, Tuple, Value}
pub use Rattle.zf_value.specs.declared.plain.Value.TheOpen.{Value-F}
pub use Rattle.zf_value.specs.declared.plain.Value.TheVariants.{outs-SetOf, outs-Tuple}
pub use Rattle.zf_value.specs.declared.value.Outcome.{Outcome}
pub use Rattle.zf_value.specs.declared.value.Outcome.TheVariants.{Is, Out}
pub use Rattle.zf_families.specs.{AllAscend, AreSets, arrow_count, arrow_rows, extended, extensions, falling, first, first_at, firsts_rise, fits_any, fits_apart, fitting, IsGraph, IsOfKind, pairs, partial_injection_count, second, second_at, seconds_apart, singles, sizes, some, stepped, whole}
unfoldable pub use Rattle.zf_families.specs.{AreArrows, IsArrow, IsArrowFrom, IsPairFrom, IsPairOn, IsTupleFrom}
pub use Rattle.zf_value.specs.contracts.plain.ValueOrd.TheImpl.Laws.{total-law}
