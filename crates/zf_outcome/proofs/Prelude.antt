-- What the proofs of this crate take from elsewhere, passed on from one place.
pub use Rattle.std.proofs.Common.{if◌then◌else◌, ◌↔◌, ◌∙◌, ◌≡◌, ap, Bool, false, IsTrue, None, of_z, refl, rules, Some, subst, sym, to_z, true, w64, ℤ, ◌⊎◌, inl, inr, ◌≤◌, ◌<◌, ℕ, Option, List, [], ⊎_elim, Less, arith, Vec, Global}
pub use Rattle.std.proofs.lemmas.Bool.{cases_lt, false≢true}
pub use Rattle.std.specs.Prelude.{◌+ℤ◌, ◌<ℤ◌, FitsSigned, pos}
pub use Rattle.zf_value.proofs.Divisions.{either_way}
pub use Rattle.zf_value.proofs.Exactly.{same}
pub use Rattle.zf_value.proofs.Seen.{is_Int, members-SetOf, number_of-Int}
pub use Rattle.zf_value.specs.{AreFrom, IsMember, IsSetOf, IsSubset, members, number_of, OnNumbers, value_order, level_order}
unfoldable pub use Rattle.zf_value.specs.{IsBetweenNumbers, IsCross, IsInterval, IsPower}
pub use Rattle.zf_value.specs.declared.value.Outcome.{Outcome}
pub use Rattle.zf_value.specs.declared.value.Outcome.TheVariants.{Is, Out, Undefined}
pub use Rattle.zf_value.specs.declared.value.Truth.{Truth}
pub use Rattle.zf_value.specs.declared.plain.Value.{Int, out-Value, SetOf, Tuple, Value}
pub use Rattle.zf_value.specs.declared.plain.Value.TheOpen.{Value-F}
pub use Rattle.zf_value.specs.declared.plain.Value.TheVariants.{outs-Int}
unfoldable pub use Rattle.zf_families.specs.{AreArrows, IsArrow, IsTupleFrom}
pub use Rattle.zf_tree.specs.declared.symbol.Arrow.{Arrow}
pub use Rattle.zf_tree.specs.declared.symbol.Relation.{Relation}
pub use Rattle.zf_extent.specs.{is_membership}
pub use Rattle.zf_outcome.specs.{found_outcome, Holds, IsAtom, IsDescribed, IsUnbuilt, IsWithin, one_out, one_undefined, OnOne, OnSeveral, Several, several_by, several_of, Tells, told_in, values, Compares, IsFrom, IsIn, AreOrdered}
unfoldable pub use Rattle.zf_outcome.specs.{Describes, IsInDescribed, IsTruthIn}
pub use Rattle.zf_outcome.specs.declared.described.Described.{Described}
pub use Rattle.zf_outcome.specs.declared.described.Described.TheVariants.{Arrows, Interval, Plain, Power, Product}
