-- What the definitions of this crate and its contracts take from elsewhere, passed on from one place.
pub use Rattle.zf_term.specs.{Comp, sets_of, carrier, DeclaredSet, DeclaredSets, has_numbers, no_sets, plain, ResolvedTree, set, sides, Ty, Defined, set_of, globals_of, comp_of, resolved_of, type_of, power, product, types}
pub use Rattle.zf_value.specs.declared.plain.Value.{Value, Int, Elem}
pub use Rattle.zf_meaning.specs.{Environment, globally, HasOutcome, infinite_in, IsCarrier, IsOfType, environment_of, AreOfTypes, IsExistingElement, type_number}
pub use Rattle.zf_value.specs.declared.value.Outcome.{Outcome}
pub use Rattle.zf_value.specs.declared.value.Outcome.TheVariants.{Is, Out, Undefined}
pub use Rattle.zf_value.specs.{IsMember, members, IsAscending}
pub use Rattle.zf_outcome.specs.{IsIn, IsInDescribed, IsWithin, IsFrom, IsDescribed}
pub use Rattle.std.specs.List.{AllByRecursion}
pub use Rattle.zf_finite.specs.{bounds, one_bounds}
