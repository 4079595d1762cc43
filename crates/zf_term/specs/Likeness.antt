-- Names that are easily taken for one another.
use Rattle.std.specs.Prelude.{ℕ, Bool, not, ◌&&◌, ◌||◌, ◌==◌, nat_le, if◌then◌else◌, List, [], ◌∷◌, length, map}
use Rattle.std.specs.Char.{to_ascii_lowercase}
use Rattle.std.specs.Str.{bytes_eq}

-- a stroke begins with this byte of a name: `'`, `?`, `!`, or a `_` that does not follow a `\`
abbrev pub begins_stroke : (before : ℕ) → ℕ → Bool
begins_stroke before b = b == 39 || (b == 63 || (b == 33 || (b == 95 && not (before == 92))))

abbrev pub up_to_stroke : (before : ℕ) → List ℕ → List ℕ
up_to_stroke before [] = []
up_to_stroke before (b ∷ rest) = if begins_stroke before b then [] else b ∷ up_to_stroke b rest

abbrev pub without_strokes : List ℕ → List ℕ
without_strokes name = up_to_stroke 0 name

-- one letter is left out, inserted or replaced, or none is
abbrev pub differ_by_one : List ℕ → List ℕ → Bool
differ_by_one [] other = nat_le (length other) 1
differ_by_one (a ∷ name) [] = nat_le (length (a ∷ name)) 1
differ_by_one (a ∷ name) (b ∷ other) = if a == b then differ_by_one name other else (bytes_eq name (b ∷ other) || (bytes_eq (a ∷ name) other || bytes_eq name other))

-- the letters are the same but for case, or one letter differs, where there are more; single letters are not alike
abbrev pub are_like : List ℕ → List ℕ → Bool
are_like name other = bytes_eq (map to_ascii_lowercase name) (map to_ascii_lowercase other) || ((nat_le 2 (length name) || nat_le 2 (length other)) && differ_by_one name other)

-- the names differ by case or by one letter, whatever their strokes
abbrev pub is_like : List ℕ → List ℕ → Bool
is_like name other = are_like (without_strokes name) (without_strokes other)
