-- Which values of a range some conjuncts leave: for private contracts alone.
use Rattle.std.specs.Prelude.{◌≡◌, ℕ, ◌<◌, ◌≤◌, Bool, false, List, [], ◌∷◌, ◌++◌, length, Some, slice_get, slice_index_or}
use Rattle.zf_plan.specs.Prelude.{False, Conjuncts, picked}
use Rattle.zf_plan.specs.Trees.{Tree, tree_at}
use Rattle.zf_plan.specs.Knowing.{IsSettled}

-- one of these conjuncts is False on every row that begins with this one
abbrev pub IsOneFalse : {V : Type 0} → Conjuncts V → List Tree → List ℕ → List V → Type 0
IsOneFalse l trees conjuncts row = (i : ℕ) × (i < length conjuncts) × IsSettled l (tree_at trees (slice_index_or conjuncts i 0)) row False

-- of the first n values of the next range those that are marked as passing: with each of the others one of these conjuncts is False
pub record AreSifted {V : Type 0} (l : Conjuncts V) (trees : List Tree) (ranges : List (List V)) (conjuncts places : List ℕ) (n : ℕ) (passes : List Bool) : Type 0 where
  pub all : length passes ≡ n
  pub dropped : (i : ℕ) → slice_get passes i ≡ Some false → IsOneFalse l trees conjuncts (picked ranges (places ++ i ∷ []))

-- no number of the list is greater
abbrev pub IsGreatest : List ℕ → ℕ → Type 0
IsGreatest numbers most = (i : ℕ) → i < length numbers → slice_index_or numbers i 0 ≤ most
