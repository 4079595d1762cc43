-- Strings of JSON.
use Rattle.std.specs.Prelude.{ℕ, ◌/◌, ◌%◌, ◌||◌, ◌&&◌, ◌==◌, nat_le, nat_lt, Bool, not, List, [], ◌∷◌, ◌++◌, codes, if◌then◌else◌}
use Rattle.std.specs.Char.{digit_char}
use Rattle.std.specs.List.{flat_map}
use Rattle.std.specs.Str.{is_utf8}

-- the quotation mark and the backslash
abbrev pub is_marked : ℕ → Bool
is_marked b = (b == 34) || (b == 92)

-- a control byte; and where the text is not UTF-8, one outside ASCII
abbrev pub is_hidden : (utf8 : Bool) → ℕ → Bool
is_hidden utf8 b = nat_lt b 32 || (b == 127) || (nat_le 128 b && not utf8)

-- `\u00` with the two digits of its number
abbrev pub hidden_text : ℕ → List ℕ
hidden_text b = codes "\\u00" ++ digit_char (b / 16) ∷ digit_char (b % 16) ∷ []

abbrev pub string_byte : (utf8 : Bool) → ℕ → List ℕ
string_byte utf8 b = if is_marked b then 92 ∷ b ∷ [] else if is_hidden utf8 b then hidden_text b else b ∷ []

unfoldable pub string_text : List ℕ → List ℕ
string_text bytes = codes "\"" ++ flat_map (string_byte (is_utf8 bytes)) bytes ++ codes "\""
