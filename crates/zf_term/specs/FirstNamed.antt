-- The first in a list that has a name.
use Rattle.std.specs.Prelude.{ℕ, ◌+◌, if◌then◌else◌, List, [], ◌∷◌, Option, Some, None}
use Rattle.std.specs.Option.{option_map}
use Rattle.std.specs.Str.{bytes_eq}

abbrev pub later : {A : Type 0} → Option (ℕ × A) → Option (ℕ × A)
later = option_map (λ p. (p.0 + 1, p.1))

-- with its place
abbrev pub first_named : {A : Type 0} → (A → List ℕ) → List ℕ → List A → Option (ℕ × A)
first_named name x [] = None
first_named name x (a ∷ rest) = if bytes_eq (name a) x then Some (0, a) else later (first_named name x rest)
