-- What the definitions of this crate and its contracts take from elsewhere, passed on from one place.
pub use Rattle.zf_term.specs.{basic, constant, Defined, first_named, has_numbers, int, listed, no_terms, no_types, power, product, reference, ResolvedTree, term, Ty, type, Tys, unary, Comp, Fault, Schema, schema}
pub use Rattle.zf_value.specs.declared.plain.Value.{Value}
pub use Rattle.zf_value.specs.declared.value.Outcome.TheVariants.{Is}
pub use Rattle.zf_value.specs.{IsMember, members, value_order}
pub use Rattle.zf_meaning.specs.declared.sizes.Size.{Size}
pub use Rattle.zf_meaning.specs.{definition_number, Environment, globally, HasOutcome, IsCarrier, IsEnvironment, IsOfType, AreOfTypes, Context, IsRow}
pub use Rattle.zf_tree.specs.{Tree, BoxTree}
pub use Rattle.zf_schema.specs.{AreDefinedOnce, IsChecked}
pub use Rattle.zf_checker.specs.{AreWellTyped}
