-- The bound of the number of tests.
use Rattle.std.specs.Prelude.{ℕ, List}
use Rattle.zf_walk.specs.Conjuncts.{Conjuncts}
use Rattle.zf_walk.specs.Tests.{IsDueTest, IsCount}

-- the number of all pairs
abbrev pub IsBound : {V : Type 0} → Conjuncts V → List (List V) → ℕ → Type 0
IsBound s ranges = IsCount (IsDueTest s ranges)
