-- The first of some things that does not pass a test.
use Rattle.std.specs.Prelude.{◌⊎◌, List, [], ◌∷◌}

-- This holds of it.
abbrev pub FirstFails : {A : Type 0} → (Passes Fails : A → Type 0) → List A → Type 0
FirstFails Passes Fails [] = ⊥
FirstFails Passes Fails (x ∷ xs) = Fails x ⊎ (Passes x × FirstFails Passes Fails xs)
