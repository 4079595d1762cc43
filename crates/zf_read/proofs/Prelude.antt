-- What the proofs of this crate take from elsewhere, passed on from one place.
pub use Rattle.std.proofs.Common.{◌&&◌, ◌++◌, ◌+◌, ◌-◌, ◌<◌, ◌^◌, ◌↔◌, ◌∙◌, ◌∷◌, ◌≡◌, ◌≤◌, ◌⊎◌, [], add-one, ap, arith, Bool, codes, drop, Equal, Err, false, get_or, Greater, IfErr, inl, inr, is_lt, IsTrue, length, Less, List, map, None, of_z, Ok, Option, Ordering, refl, Result, rules, Some, subst, suc, sym, take, to_z, true, zero, ℕ, ℤ, ⊎_elim}
pub use Rattle.std.proofs.lemmas.Bool.Decides.{Decides-eqb}
pub use Rattle.std.proofs.lemmas.Fmt.{decimal_injective, IsAscii-decimal, IsAscii-signed, parse-decimal, parse-signed_decimal}
pub use Rattle.std.proofs.lemmas.List.{append-nil, append_assoc, drop_more, length-append, length-drop, take-append-drop, take_all}
pub use Rattle.std.proofs.lemmas.Slice.Eq.{slice_eq-Decides, strip_prefix_is}
pub use Rattle.std.specs.Fmt.{signed_decimal}
pub use Rattle.std.specs.Int.{w64}
pub use Rattle.std.specs.List.{list_all, AllByRecursion}
pub use Rattle.std.specs.Prelude.{decimal, FitsSigned, IsErrAnd, IsUtf8, MatchBool, MatchOption, slice_get}
pub use Rattle.std.specs.Str.Parse.{ParsesSigned, ParsesUnsigned}
pub use Rattle.zf_format.specs.declared.format.Format.TheVariants.{Lines}
pub use Rattle.zf_value.proofs.Exactly.{same}
pub use Rattle.zf_value.specs.{IsAscending, value_order}
pub use Rattle.zf_value.specs.declared.TheConstants.{SET_MAX}
pub use Rattle.zf_value.specs.declared.plain.Value.{Elem, Int, SetOf, Tuple, Value}
pub use Rattle.zf_term.specs.{basic, Comp, comp_of, first_named, int, no_types, power, product, Ty, type, type_of, types, Tys}
pub use Rattle.zf_term.specs.declared.schema.Component.{Component}
pub use Rattle.zf_meaning.specs.{AreOfTypes, Environment, environment_of, found_number, IsExistingElement, IsOfType, IsRow, type_number}
pub use Rattle.zf_print.specs.{AreApart, AreClear, AreNames, binding_text, Closes, comma_before, component_text, component_texts, Ends, EndsAs, goes_on, is_in_word, IsClear, IsName, IsNoneOf, later_parts, parted, spelled, value_text}
pub use Rattle.zf_read.specs.{AreMembers, AreMembersAt, ArePartsAt, BeginsWithName, AreChosen, HaveClearNames, HoldNext, IfMisfit, IsComponentAt, IsElsewhere, IsHeldLine, IsItem, IsLineOf, IsNamed, IsNext, IsPart, IsPartAt, IsSpelledType, IsValueAt, IsWordAt, HeldIsLine, LineIsHeld, nothing_of, OneHeldLine, with_values}
unfoldable pub use Rattle.zf_read.specs.{AreNoMembers, AreNoParts, BeginsWithoutName, GoesOn, HasNoElements, IsNoComponent, IsNoHeldRest, IsNoHeldLine, IsNoItem, IsNoLine, IsNoNext, IsNoRest, IsNoSpelledType, IsNoValue, NamesNone, SpellsNone}
pub use Rattle.zf_print.specs.declared.spelling.Spelling.{Spelling}
pub use Rattle.zf_print.specs.declared.spelling.Spelling.TheVariants.{Named, Numbered}
pub use Rattle.std.proofs.lemmas.Option.{same_Some}
pub use Rattle.zf_print.proofs.Printing.{goes_on-first, goes_on-later, goes_on-nil, comps-drop, drop-end, front}
pub use Rattle.zf_print.proofs.Spelled.{cancel, spelled_word}
pub use Rattle.zf_print.proofs.WordRuns.{name_in_word, one_run, AreInWord, signed_in_word, first_and_rest}
pub use Rattle.zf_print.proofs.OneFront.{ends_as, magnitude, ends_later, one_front, element_spelled}
pub use Rattle.zf_print.proofs.OneRow.{one_component, ends_parts}
