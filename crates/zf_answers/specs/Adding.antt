-- One more place of a component. No public clause rests on this file.
use Rattle.std.specs.Prelude.{◌≡◌, ◌⊎◌, ℕ, List, [], ◌∷◌, ◌++◌, Some, None, Contains}
use Rattle.zf_answers.specs.Prelude.{Comp}
use Rattle.zf_answers.specs.Only.{trimmed}
use Rattle.zf_answers.specs.Only.{component_place}

-- after these places stands that of the component which is named between blanks, and it is none of them
pub record IsAdded (comps : List Comp) (name : List ℕ) (old new : List ℕ) : Type 0 where
  pub place : ℕ
  pub named : component_place comps (trimmed name) ≡ Some place
  pub other : Contains old place → ⊥
  pub added : new ≡ old ++ place ∷ []

-- there is no such component, or it is one of them
abbrev pub HasNoPlace : List Comp → (name : List ℕ) → (places : List ℕ) → Type 0
HasNoPlace comps name places = (component_place comps (trimmed name) ≡ None) ⊎ ((place : ℕ) × (component_place comps (trimmed name) ≡ Some place) × Contains places place)
