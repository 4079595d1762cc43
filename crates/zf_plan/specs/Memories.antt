-- What a search remembers, and how it changes: for private contracts and the model of `Search` alone.
use Rattle.std.specs.Prelude.{◌≡◌, ◌≢◌, ℕ, ◌<◌, Bool, List, length, replicate, slice_index_or, Option, None}
use Rattle.zf_plan.specs.Prelude.{Truth, Table, Conjuncts, AreTrue}

-- Of each leaf how many values it needs, its truth on the bound values where that is known, and the truths that it had on any values, as far as they are kept. And how many tests were counted.
pub record Memory : Type 0 where
  pub dues : List ℕ
  pub truths : List (Option Truth)
  pub tables : List (Option Table)
  pub tests : ℕ

-- for each leaf how many values it needs
abbrev pub AreDues : {V : Type 0} → Conjuncts V → List ℕ → Type 0
AreDues l dues = (c : ℕ) → c < l.number → slice_index_or dues c 0 ≡ l.due c

-- nothing is known
pub record IsNew {V : Type 0} (l : Conjuncts V) (uses : ℕ → ℕ → Bool) (ranges : List (List V)) (m : Memory) : Type 0 where
  pub dues : AreDues l m.dues
  pub none : m.truths ≡ replicate l.number None
  pub tables : AreTrue l uses ranges m.tables
  pub tests : m.tests ≡ 0

-- nothing is known of the leaves that need k values, and all that was of the others
pub record Forgets (k : ℕ) (old new : Memory) : Type 0 where
  pub dues : new.dues ≡ old.dues
  pub all : length new.truths ≡ length old.truths
  pub others : (c : ℕ) → slice_index_or old.dues c 0 ≢ k → slice_index_or new.truths c None ≡ slice_index_or old.truths c None
  pub none : (c : ℕ) → slice_index_or old.dues c 0 ≡ k → slice_index_or new.truths c None ≡ None
  pub tables : new.tables ≡ old.tables
  pub tests : new.tests ≡ old.tests
