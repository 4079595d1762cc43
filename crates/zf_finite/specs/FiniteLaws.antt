-- What is claimed of finite schemas.
use Rattle.std.specs.Prelude.{◌≡◌, ◌↔◌, ℕ, List, [], Option}
use Rattle.zf_term.specs.{Defined, Schema}
use Rattle.zf_finite.specs.Finite.{causes, IsFinite}

-- a schema is finite exactly where nothing makes it infinite
abbrev pub FiniteWithoutCause : Type 0
FiniteWithoutCause = (n : Option ℕ) (g : List Defined) (a : Schema) → IsFinite n g a ↔ (causes n g a ≡ [])
