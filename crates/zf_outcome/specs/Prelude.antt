-- What the definitions of this crate and its contracts take from elsewhere, passed on from one place.
pub use Rattle.zf_tree.specs.declared.symbol.Infix.{Infix}
pub use Rattle.zf_tree.specs.declared.symbol.Infix.TheVariants.{Maplet, UpTo, Plus, Minus, Union, Difference, Times, Div, Mod, Intersection, Composition, Overriding, DomainRestriction, RangeRestriction, DomainSubtraction, RangeSubtraction}
pub use Rattle.zf_tree.specs.declared.symbol.Relation.{Relation}
pub use Rattle.zf_term.specs.declared.extent.Infinite.{Infinite}
pub use Rattle.zf_term.specs.declared.extent.Infinite.TheVariants.{Num, Nat, Nat1}
pub use Rattle.zf_value.specs.declared.value.Outcome.{Outcome}
pub use Rattle.zf_value.specs.declared.value.Outcome.TheVariants.{Undefined, Is}
pub use Rattle.zf_value.specs.{IsDifference, IsInterval, IsModulus, IsProduct, IsQuotient, IsSum, IsCross, IsMember, IsPower, members, AreAmong, IsApplied, IsComposition, IsDisplay, IsDomain, IsDomainRestriction, IsDomainSubtraction, IsImage, IsIntersection, IsInverse, IsNegation, IsOverriding, IsPair, IsRange, IsRangeRestriction, IsRangeSubtraction, IsSetDifference, IsSize, IsTuple, IsUnion, number_of, OnNumber, OnNumbers, AreFrom, pair}
pub use Rattle.zf_tree.specs.declared.symbol.Connective.{Connective}
pub use Rattle.zf_tree.specs.declared.symbol.Quantifier.{Quantifier}
pub use Rattle.zf_tree.specs.declared.symbol.Quantifier.TheVariants.{ForAll, Exists, ExistsOne}
pub use Rattle.zf_value.specs.declared.value.Truth.{Truth}
pub use Rattle.zf_value.specs.declared.value.Truth.TheVariants.{True, False, Out}
pub use Rattle.zf_value.specs.declared.plain.Value.{Value, Int}
