-- How it is kept what is known of leaves: for the model of `Memo` alone.
use Rattle.std.specs.Prelude.{◌≡◌, ℕ, ◌<◌, ◌≤◌, eqb, cond, List, length, map, slice_get, slice_index_or, Option, Some, None}
use Rattle.zf_plan.specs.Prelude.{Truth, Table, Conjuncts}
use Rattle.zf_plan.specs.declared.memo.Stamped.{Stamped}
use Rattle.zf_plan.specs.Memories.{Memory}

-- the truth, where its stamp is that of as many values as the leaf needs
abbrev pub known_by : List ℕ → Stamped → Option Truth
known_by stamps s = cond (eqb s.stamp (slice_index_or stamps s.due 0)) (Some s.truth) None

abbrev pub memory_of : List ℕ → List Stamped → List (Option Table) → ℕ → Memory
memory_of stamps leaves tables tests = record {
  dues = map (λ s. s.due) leaves;
  truths = map (known_by stamps) leaves;
  tables = tables;
  tests = tests;
}

-- no stamp is greater than that of as many values as the leaf needs, which is not 0
pub record AreStamped (stamps : List ℕ) (leaves : List Stamped) : Type 0 where
  pub some : (k : ℕ) → k < length stamps → 0 < slice_index_or stamps k 0
  pub each : (c : ℕ) (s : Stamped) → slice_get leaves c ≡ Some s → (s.due < length stamps) × (s.stamp ≤ slice_index_or stamps s.due 0)

-- of the first n leaves nothing is known
pub record AreUnknown {V : Type 0} (l : Conjuncts V) (n : ℕ) (leaves : List Stamped) : Type 0 where
  pub all : length leaves ≡ n
  pub each : (c : ℕ) (s : Stamped) → slice_get leaves c ≡ Some s → (s.due ≡ l.due c) × (s.stamp ≡ 0)

-- without its stamp, if it needs so many values
abbrev pub cleared : ℕ → Stamped → Stamped
cleared due s = cond (eqb s.due due) (record { due = s.due; stamp = 0; truth = s.truth }) s

-- those that need so many values have no stamp any more
abbrev pub IsCleared : ℕ → List Stamped → List Stamped → Type 0
IsCleared due old new = new ≡ map (cleared due) old
