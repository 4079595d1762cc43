-- What may stand after a value. No public clause rests on this file.
use Rattle.std.specs.Prelude.{◌≡◌, ℕ, Bool, false, ◌||◌, ◌==◌, List, [], ◌∷◌}
use Rattle.zf_term.specs.{basic, int, power, product, Ty}
use Rattle.zf_print.specs.Words.{is_in_word, Ends}

-- what may stand after the text of a value of the type: after a word none goes on
abbrev pub EndsAs : Ty → List ℕ → Type 0
EndsAs int r = Ends r
EndsAs (basic name) r = Ends r
EndsAs (power t) r = Unit {0}
EndsAs (product ts) r = Unit {0}

-- a bracket that opens, a comma, or a quotation mark
abbrev pub is_opening : ℕ → Bool
is_opening b = (b == 34) || (b == 40) || (b == 44) || (b == 91) || (b == 123)

-- neither a value nor a comma
abbrev pub Closes : List ℕ → Type 0
Closes [] = Unit {0}
Closes (b ∷ r) = (is_in_word b ≡ false) × (is_opening b ≡ false)
