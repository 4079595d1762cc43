-- What a greatest number makes finite.
use Rattle.std.specs.Prelude.{◌↔◌, IsTrue, ℕ, List, None, Some}
use Rattle.law_answered.specs.Prelude.{Defined, is_mended, IsFinite, Schema}

-- What is said to be finite with a greatest number is so with each, and nothing else is so with any.
abbrev pub NumbersMend : Type 0
NumbersMend = (n : ℕ) (g : List Defined) (a : Schema) → IsTrue (is_mended None g a) ↔ IsFinite (Some n) g a
