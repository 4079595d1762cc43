-- On which values it is to be blamed that no event begins with a value: for private contracts and the model of `Search` alone.
use Rattle.std.specs.Prelude.{◌≡◌, ◌⊎◌, ℕ, ◌<◌, Bool, true, false, List, ◌∷◌, ◌++◌, [], length, Option, Some, slice_get, slice_index_or}
use Rattle.zf_plan.specs.Prelude.{Conjuncts, AreWithin, HasBit, IsRowOf, picked}
use Rattle.zf_plan.specs.Trees.{EachLeaf, Tree, tree_at}
use Rattle.zf_plan.specs.Knowing.{touches}
use Rattle.zf_plan.specs.Choosing.{IsChosen, IsFailed}
use Rattle.zf_plan.specs.declared.marks.Mark.{Mark}

-- of the first k components the word has a bit for each that the tree uses
abbrev pub HasBits : (ℕ → ℕ → Bool) → ℕ → ℕ → Tree → Type 0
HasBits uses word k = EachLeaf (λ c. (i : ℕ) → i < k → uses c i ≡ true → HasBit word i)

-- the word has a bit for each of the first k components that one of the first n conjuncts uses which have a leaf that needs k values
abbrev pub Covers : {V : Type 0} → Conjuncts V → (ℕ → ℕ → Bool) → List Tree → ℕ → ℕ → ℕ → Type 0
Covers l uses trees k n word = (j : ℕ) → j < n → touches l k (tree_at trees j) ≡ true → HasBits uses word k (tree_at trees j)

-- at each component of which the word has a bit these are the same places
abbrev pub AreAlike : ℕ → List ℕ → List ℕ → Type 0
AreAlike word places others = (i : ℕ) → i < length others → HasBit word i → slice_index_or others i 0 ≡ slice_index_or places i 0

-- Unless range k is open: with its first n values, and those that are not chosen, a conjunct is False on each row, whatever the values before it are, if only those that are to be blamed stay.
abbrev pub IsBlamed : {V : Type 0} → Conjuncts V → List Tree → List (List V) → List ℕ → ℕ → ℕ → Option (List ℕ) → Mark → Type 0
IsBlamed {V} l trees ranges places k n choice mark = mark.is_open ≡ false → (others : List ℕ) → AreWithin ranges others → length others ≡ k → AreAlike mark.blame places others
    → (i : ℕ) (v : V) (more : List V) → slice_get (slice_index_or ranges k []) i ≡ Some v → (i < n) ⊎ (IsChosen choice i → ⊥)
    → IsRowOf ranges (picked ranges others ++ v ∷ more) → IsFailed l trees (picked ranges others ++ v ∷ more)
