-- Which values of a range a leaf leaves.
use Rattle.std.specs.Prelude.{◌≡◌, ◌≢◌, ℕ, ◌+◌, List, [], ◌∷◌, ◌++◌, length, Option, None, Some, Contains, slice_get, slice_index_or}
use Rattle.zf_plan.specs.Prelude.{False, Conjuncts, IsRowOf, picked}

-- what was gathered stays
abbrev pub StaysIn : List ℕ → List ℕ → Type 0
StaysIn old new = (i : ℕ) → Contains old i → Contains new i

-- the leaf is False on each row of the ranges that goes on from the values at these places with one of the next range at none of the places that are left
abbrev pub Leaves : {V : Type 0} → Conjuncts V → ℕ → List (List V) → List ℕ → List ℕ → Type 0
Leaves {V} l leaf ranges places left = (i : ℕ) (v : V) (more : List V) → slice_get (slice_index_or ranges (length places) []) i ≡ Some v → (Contains left i → ⊥)
    → IsRowOf ranges (picked ranges places ++ v ∷ more) → l.says leaf (picked ranges places ++ v ∷ more) False

-- it is the key of the value at this place of the last range that the leaf needs; without a place the leaf is False on each row of the ranges that goes on from the values at these places with one of another key
abbrev pub IsKeyOf : {V : Type 0} → Conjuncts V → (V → ℕ → Type 0) → ℕ → List (List V) → List ℕ → Option ℕ → ℕ → Type 0
IsKeyOf {V} l is_key leaf ranges places (Some i) n = (k : ℕ) (v : V) → l.due leaf ≡ k + 1 → slice_get (slice_index_or ranges k []) i ≡ Some v → is_key v n
IsKeyOf {V} l is_key leaf ranges places None n = l.due leaf ≡ length places + 1 → (v : V) (m : ℕ) (more : List V) → is_key v m → m ≢ n
    → IsRowOf ranges (picked ranges places ++ v ∷ more) → l.says leaf (picked ranges places ++ v ∷ more) False
