-- Which values of a range are tried: for private contracts and the model of `Search` alone.
use Rattle.std.specs.Prelude.{◌≡◌, ℕ, suc, ◌<◌, ◌≤◌, Bool, true, false, List, [], ◌∷◌, ◌++◌, length, take, Option, Some, None, Contains, slice_get, slice_index_or}
use Rattle.zf_plan.specs.Prelude.{False, Conjuncts, AreWithin, IsRowOf, picked}
use Rattle.zf_plan.specs.Trees.{EachLeaf, IsTreeTruth, Tree, tree_at}

-- the numbers, from n on, of those that are marked as passing
abbrev pub passing : ℕ → List Bool → List ℕ
passing n [] = []
passing n (true ∷ passes) = n ∷ passing (suc n) passes
passing n (false ∷ passes) = passing (suc n) passes

-- the place is one of those that are chosen, or all are
abbrev pub IsChosen : Option (List ℕ) → ℕ → Type 0
IsChosen None i = Unit {0}
IsChosen (Some places) i = Contains places i

-- which of the first n places were chosen still are
abbrev pub KeepsChosen : ℕ → Option (List ℕ) → Option (List ℕ) → Type 0
KeepsChosen n old new = (i : ℕ) → i < n → IsChosen old i → IsChosen new i

-- the tree is False on each row of the ranges that goes on from this one with a value of the next range at none of these places
abbrev pub Narrows : {V : Type 0} → Conjuncts V → Tree → List (List V) → List V → List V → List ℕ → Type 0
Narrows {V} l tree ranges row range places = (i : ℕ) (v : V) (more : List V) → slice_get range i ≡ Some v → (Contains places i → ⊥) → IsRowOf ranges (row ++ v ∷ more) → IsTreeTruth l tree (row ++ v ∷ more) False

-- a conjunct is False on the row
abbrev pub IsFailed : {V : Type 0} → Conjuncts V → List Tree → List V → Type 0
IsFailed l trees row = (j : ℕ) × (j < length trees) × IsTreeTruth l (tree_at trees j) row False

-- a conjunct is False on each row of the ranges that goes on from this one with a value of the next range that is not chosen
abbrev pub IsChoice : {V : Type 0} → Conjuncts V → List Tree → List (List V) → List V → List V → Option (List ℕ) → Type 0
IsChoice {V} l trees ranges row range choice = (i : ℕ) (v : V) (more : List V) → slice_get range i ≡ Some v → (IsChosen choice i → ⊥) → IsRowOf ranges (row ++ v ∷ more) → IsFailed l trees (row ++ v ∷ more)

-- of the first k components no leaf of the tree uses one from n on
abbrev pub UsesFirst : (ℕ → ℕ → Bool) → ℕ → ℕ → Tree → Type 0
UsesFirst uses n k = EachLeaf (λ c. (i : ℕ) → n ≤ i → i < k → uses c i ≡ false)

-- of the first k components each of these conjuncts uses at most so many first ones
pub record AreLasts (uses : ℕ → ℕ → Bool) (trees : List Tree) (k : ℕ) (conjuncts lasts : List ℕ) : Type 0 where
  pub all : length lasts ≡ length conjuncts
  pub each : (i : ℕ) → i < length lasts → (slice_index_or lasts i 0 ≤ k) × UsesFirst uses (slice_index_or lasts i 0) k (tree_at trees (slice_index_or conjuncts i 0))

-- it is a choice of range k wherever the first n values are those at these places
abbrev pub StaysChoice : {V : Type 0} → Conjuncts V → List Tree → List (List V) → ℕ → ℕ → List ℕ → Option (List ℕ) → Type 0
StaysChoice l trees ranges k n places choice = (others : List ℕ) → AreWithin ranges others → length others ≡ k → take n others ≡ take n places
    → IsChoice l trees ranges (picked ranges others) (slice_index_or ranges k []) choice

-- no chosen place lies from one on before the next
pub record IsNextChoice (choice : Option (List ℕ)) (from next : ℕ) : Type 0 where
  pub up : from ≤ next
  pub skipped : (i : ℕ) → from ≤ i → i < next → IsChosen choice i → ⊥
