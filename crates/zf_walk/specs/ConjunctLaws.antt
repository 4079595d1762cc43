-- What a walk asks of conjuncts.
use Rattle.std.specs.Prelude.{◌≡◌, ℕ, ◌<◌, ◌≤◌, Bool, true, List, ◌++◌, length, slice_get}
use Rattle.zf_walk.specs.declared.judge.Truth.{Truth}
use Rattle.zf_walk.specs.Conjuncts.{Conjuncts}

-- no conjunct has two truths on a row
abbrev pub HaveOneTruth : {V : Type 0} → Conjuncts V → Type 0
HaveOneTruth {V} s = (c : ℕ) (row : List V) (t u : Truth) → c < s.number → s.due c ≤ length row → s.says c row t → s.says c row u → t ≡ u

-- a truth on what a conjunct needs is its truth on every longer row
abbrev pub KeepTruths : {V : Type 0} → Conjuncts V → Type 0
KeepTruths {V} s = (c : ℕ) (row more : List V) (t : Truth) → c < s.number → s.due c ≤ length row → s.says c row t → s.says c (row ++ more) t

-- rows that agree in the components that a conjunct is said to use have the same truths
abbrev pub FollowUsed : {V : Type 0} → Conjuncts V → (ℕ → ℕ → Bool) → Type 0
FollowUsed {V} s uses = (c : ℕ) (row other : List V) (t : Truth) → c < s.number → s.due c ≤ length row → s.due c ≤ length other
    → ((k : ℕ) → uses c k ≡ true → slice_get row k ≡ slice_get other k) → s.says c row t → s.says c other t
