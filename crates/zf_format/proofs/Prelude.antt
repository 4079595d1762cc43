-- What the proofs of this crate take from elsewhere, passed on from one place.
pub use Rattle.std.proofs.Common.{◌++◌, ◌∙◌, ◌∷◌, ◌≡◌, [], ap, arith, Bool, false, List, refl, sym, true, ℕ, ◌/◌, ◌%◌, drop, codes, ◌+◌, ◌<◌, length, rules}
pub use Rattle.std.proofs.lemmas.List.{append_assoc, length-drop, take_rest}
pub use Rattle.std.specs.Char.{digit_char}
pub use Rattle.std.specs.List.{flat_map}
pub use Rattle.std.specs.Str.{is_utf8}
pub use Rattle.zf_format.specs.{hidden_text, is_hidden, is_marked, string_byte}
pub use Rattle.std.specs.Prelude.{is_ok, IsUtf8, MatchResult}
