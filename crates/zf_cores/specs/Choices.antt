-- Choices among several members, by their places, and the minimal ones of which nothing is possible.
use Rattle.std.specs.Prelude.{◌≡◌, ℕ, Bool, true, false, List, [], ◌∷◌, length, slice_get, slice_set, Some}

-- the member at this place is chosen, or is left
abbrev pub IsChosen : List Bool → ℕ → Type 0
IsChosen chosen i = slice_get chosen i ≡ Some true

abbrev pub IsLeft : List Bool → ℕ → Type 0
IsLeft chosen i = slice_get chosen i ≡ Some false

-- one is chosen
abbrev pub HasChosen : List Bool → Type 0
HasChosen chosen = (i : ℕ) × IsChosen chosen i

-- of some things those that are chosen
abbrev pub chosen_of : {A : Type 0} → List A → List Bool → List A
chosen_of [] chosen = []
chosen_of (x ∷ xs) [] = []
chosen_of (x ∷ xs) (false ∷ chosen) = chosen_of xs chosen
chosen_of (x ∷ xs) (true ∷ chosen) = x ∷ chosen_of xs chosen

-- Nothing is possible with the chosen ones, of n members, and without any one of them something is.
pub record IsMinimal (Possible : List Bool → Type 0) (n : ℕ) (chosen : List Bool) : Type 0 where
  pub each : length chosen ≡ n
  pub impossible : Possible chosen → ⊥
  pub needed : (i : ℕ) → IsChosen chosen i → Possible (slice_set chosen i false)
