pub mod Spellings
pub mod ValueTexts
pub mod BindingTexts
pub mod LineTexts
pub mod Words
pub mod Clear
pub mod Laws
pub mod Endings
pub use Rattle.zf_print.specs.Spellings.{element_text, spelled, spellings, with_spelling}
unfoldable pub use Rattle.zf_print.specs.ValueTexts.{value_in}
pub use Rattle.zf_print.specs.ValueTexts.{element_in, later_parts, parted, set_in, tuple_in, value_object, value_step, value_text}
pub use Rattle.zf_print.specs.BindingTexts.{binding_object, binding_text, component_in, components_in, name_in, row_text}
pub use Rattle.zf_print.specs.LineTexts.{comma_before, component_text, component_texts, goes_on}
pub use Rattle.zf_print.specs.Words.{Ends, is_in_name, is_in_word}
pub use Rattle.zf_print.specs.Clear.{AreApart, AreClear, AreNames, IsClear, IsName, IsNoneOf}
pub use Rattle.zf_print.specs.Laws.{OneEnd, OneObject, OneRow, OneValue}
pub use Rattle.zf_print.specs.Endings.{Closes, EndsAs, is_opening}
