-- What the definitions of this crate and its contracts take from elsewhere, passed on from one place.
pub use Rattle.zf_term.specs.{Comp, Ty, Tys, basic, comp_of, schema_of, int, power, product, type_of, types}
pub use Rattle.zf_value.specs.declared.plain.Value.{Value}
pub use Rattle.zf_meaning.specs.{Environment, IsOfType, IsRow, AreOfTypes, IsExistingElement, type_number, environment_of}
pub use Rattle.zf_print.specs.declared.spelling.Spelling.{Spelling}
pub use Rattle.zf_print.specs.{comma_before, component_text, Ends, AreApart, AreNames, AreClear, binding_text, component_texts, EndsAs, goes_on, is_in_word, IsClear, parted, spelled, value_text}
pub use Rattle.zf_value.specs.{IsAscending}
