-- Conjuncts by their places, and the truth of all of them on a row.
use Rattle.std.specs.Prelude.{◌⊎◌, ℕ, ◌<◌, List}
use Rattle.zf_walk.specs.declared.judge.Truth.{Truth}
use Rattle.zf_walk.specs.declared.judge.Truth.TheVariants.{True, False, Out}

-- how many there are, how many first components each needs, and which truth each has on a row
pub record Conjuncts (V : Type 0) : Type 1 where
  pub number : ℕ
  pub due : ℕ → ℕ
  pub says : ℕ → List V → Truth → Type 0

-- the truth of a whole row: False where a conjunct is False, else Out where one is Out, else True
abbrev pub IsTruthOf : {V : Type 0} → Conjuncts V → List V → Truth → Type 0
IsTruthOf s row False = (c : ℕ) × (c < s.number) × s.says c row False
IsTruthOf s row True = (c : ℕ) → c < s.number → s.says c row True
IsTruthOf s row Out = ((c : ℕ) → c < s.number → s.says c row True ⊎ s.says c row Out) × ((c : ℕ) × (c < s.number) × s.says c row Out)
