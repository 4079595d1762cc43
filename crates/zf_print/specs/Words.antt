-- The bytes of names, numbers and elements, and where a word ends.
use Rattle.std.specs.Prelude.{◌≡◌, ℕ, Bool, false, ◌||◌, ◌==◌, List, [], ◌∷◌}
use Rattle.zf_scan.specs.{is_letter}
use Rattle.std.specs.Char.{is_ascii_digit}

-- a byte of a name with its strokes: a letter, a digit, or one of `! ' ? \ _`
abbrev pub is_in_name : ℕ → Bool
is_in_name b = is_letter b || is_ascii_digit b || (b == 33) || (b == 39) || (b == 63) || (b == 92) || (b == 95)

-- a byte of a name, a number or an element: `-` and `.` too
abbrev pub is_in_word : ℕ → Bool
is_in_word b = is_in_name b || (b == 45) || (b == 46)

-- no word goes on with these
abbrev pub Ends : List ℕ → Type 0
Ends [] = Unit {0}
Ends (b ∷ rest) = is_in_word b ≡ false
