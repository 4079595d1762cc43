-- What is claimed of strings alone.
use Rattle.std.specs.Prelude.{◌≡◌, ℕ, List, ◌++◌}
use Rattle.zf_format.specs.Strings.{string_text}

-- a text begins with one string alone, and that is the string of one list of bytes
abbrev pub OneString : Type 0
OneString = (a b r s : List ℕ) → string_text a ++ r ≡ string_text b ++ s → (a ≡ b) × (r ≡ s)
