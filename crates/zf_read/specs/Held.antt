-- Lines of some of a schema's components, in any order, and the values that they hold.
use Rattle.std.specs.Prelude.{◌≡◌, ℕ, ◌+◌, List, [], ◌∷◌, ◌++◌, map, Option, Some, None, set, slice_get}
use Rattle.zf_read.specs.Prelude.{Comp, Value, Environment, IsOfType, Spelling, comma_before, component_text}

-- After n parts the bytes go on with the component at this place, of which no value is held yet, and a value of its type.
pub record IsPart (ss : List Spelling) (e : Environment) (cs : List Comp) (n : ℕ) (bytes : List ℕ) (before : List (Option Value)) (place : ℕ) (v : Value) (rest : List ℕ) : Type 0 where
  pub comp : Comp
  pub there : slice_get cs place ≡ Some comp
  pub free : slice_get before place ≡ Some None
  pub of_type : IsOfType e comp.type v
  pub stands : bytes ≡ comma_before n ++ (component_text ss comp v ++ rest)

-- After n parts the bytes go on with these to their end. The value of each is held from there on.
abbrev pub HoldNext : List Spelling → Environment → List Comp → ℕ → List ℕ → (before : List (Option Value)) → (parts : List (ℕ × Value)) → (held : List (Option Value)) → Type 0
HoldNext ss e cs n bytes before [] held = (bytes ≡ []) × (held ≡ before)
HoldNext ss e cs n bytes before (p ∷ parts) held =
    (rest : List ℕ) × IsPart ss e cs n bytes before p.0 p.1 rest × HoldNext ss e cs (n + 1) rest (set before p.0 (Some p.1)) parts held

-- of none of the components a value is held
abbrev pub nothing_of : List Comp → List (Option Value)
nothing_of cs = map (λ c. None) cs

-- the text is a line of some of the components, each at most once, and these are the values that it holds, by the components' places
abbrev pub IsHeldLine : List Spelling → Environment → List Comp → List ℕ → List (Option Value) → Type 0
IsHeldLine ss e cs text held = (parts : List (ℕ × Value)) × HoldNext ss e cs 0 text (nothing_of cs) parts held
