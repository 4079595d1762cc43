-- Held values by the choice of components, in the order of the line: it is the line of the row that they are.
use Rattle.std.specs.Prelude.{◌≡◌, ◌≢◌, ℕ, List, [], ◌∷◌, Option, Some, set, slice_get}
use Rattle.zf_read.specs.Prelude.{Comp, Value, Environment, IsRow, Spelling, binding_text}
use Rattle.zf_read.specs.Held.{nothing_of}

-- the place is none of these
abbrev pub IsElsewhere : List ℕ → ℕ → Type 0
IsElsewhere [] place = Unit {0}
IsElsewhere (p ∷ places) place = (p ≢ place) × IsElsewhere places place

-- at these places, each another one, these components stand
abbrev pub AreChosen : List Comp → (places : List ℕ) → (chosen : List Comp) → Type 0
AreChosen cs [] [] = Unit {0}
AreChosen cs [] (c ∷ chosen) = ⊥
AreChosen cs (p ∷ places) [] = ⊥
AreChosen cs (p ∷ places) (c ∷ chosen) = IsElsewhere places p × (slice_get cs p ≡ Some c) × AreChosen cs places chosen

-- what is held, with these values at these places
abbrev pub with_values : List (Option Value) → (places : List ℕ) → List Value → List (Option Value)
with_values held [] vs = held
with_values held (p ∷ places) [] = held
with_values held (p ∷ places) (v ∷ vs) = with_values (set held p (Some v)) places vs

-- The text is the line of a row of some components in some order, and the row's values are held, and no others.
pub record IsLineOfSome (ss : List Spelling) (e : Environment) (cs : List Comp) (text : List ℕ) (held : List (Option Value)) : Type 0 where
  pub places : List ℕ
  pub chosen : List Comp
  pub values : List Value
  pub are_chosen : AreChosen cs places chosen
  pub row : IsRow e chosen values
  pub line : text ≡ binding_text ss chosen values
  pub are_held : held ≡ with_values (nothing_of cs) places values
