-- What is found, seen as something else.
use Rattle.std.specs.Prelude.{ℕ, Option, Some, None}

-- what is found, with its place
abbrev pub found_as : {A B : Type 0} → (A → B) → Option (ℕ × A) → Option (ℕ × B)
found_as f None = None
found_as f (Some p) = Some (p.0, f p.1)
