-- What the proofs of this crate take from elsewhere, passed on from one place.
pub use Rattle.std.proofs.Common.{◌&&◌, ◌++◌, ◌+◌, ◌<◌, ◌^◌, ◌||◌, ◌∙◌, ◌∷◌, ◌≡◌, ◌≤◌, [], add-one, ap, arith, Bool, codes, drop, false, length, List, map, negsuc, None, Option, pos, refl, Some, subst, suc, sym, true, zero, ℕ, ℤ, rules}
pub use Rattle.std.proofs.lemmas.Fmt.{decimal_injective, decimal_is_IsNumeral, decimal_nonempty, signed_decimal_injective, decimal_digit}
pub use Rattle.std.proofs.lemmas.List.{append_assoc, drop_more, length-append}
pub use Rattle.std.specs.Fmt.{signed_decimal}
pub use Rattle.std.specs.Int.{IsInRange, w64}
pub use Rattle.std.specs.List.{list_all, AllByRecursion}
pub use Rattle.std.specs.Prelude.{decimal, FitsSigned, slice_get, OnOk}
pub use Rattle.std.specs.Str.Parse.{AllDigits}
pub use Rattle.zf_format.specs.declared.format.Format.{Format}
pub use Rattle.zf_format.specs.declared.format.Format.TheVariants.{Lines, Objects}
unfoldable pub use Rattle.zf_format.specs.{string_text}
pub use Rattle.zf_value.proofs.Exactly.{same}
pub use Rattle.zf_value.specs.declared.plain.Value.{Elem, fold-roll-Value, Int, map-Value, roll-Value, SetOf, Tuple, Value}
pub use Rattle.zf_term.specs.{basic, Comp, comp_of, Defined, globals_of, int, no_types, power, product, Ty, type, Tys}
pub use Rattle.zf_term.specs.declared.schema.Component.{Component}
pub use Rattle.zf_meaning.specs.{AreOfTypes, Environment, IsExistingElement, IsOfType, IsRow, type_number}
pub use Rattle.zf_print.specs.{AreApart, AreClear, AreNames, Closes, comma_before, component_in, components_in, element_in, element_text, Ends, EndsAs, goes_on, is_in_name, is_in_word, is_opening, IsClear, IsName, IsNoneOf, later_parts, name_in, parted, row_text, set_in, spelled, spellings, tuple_in, value_step, with_spelling}
unfoldable pub use Rattle.zf_print.specs.{value_in}
pub use Rattle.zf_print.specs.declared.spelling.Spelling.{Spelling}
pub use Rattle.zf_print.specs.declared.spelling.Spelling.TheVariants.{Named, Numbered}
