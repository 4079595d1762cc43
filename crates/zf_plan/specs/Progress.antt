-- What a search is seen as.
use Rattle.std.specs.Prelude.{◌≡◌, ℕ, Bool}
use Rattle.zf_plan.specs.Prelude.{SameRanges, Stage}
use Rattle.zf_walk.specs.Progress as walk
use Rattle.zf_plan.specs.Groves.{Grove}

-- A search: what it asks, the trees over that, where it stands, how many leaves were asked for, and whether these are the tests of a walk over the leaves.
pub record Progress (V J : Type 0) : Type 0 where
  pub judge : J
  pub forest : Grove
  pub stage : Stage V
  pub tests : ℕ
  pub counts : Bool

-- the same without the trees
abbrev pub counted : {V J : Type 0} → Progress V J → walk.Progress V J
counted w = record { judge = w.judge; stage = w.stage; tests = w.tests }

-- what no step changes
pub record SameProblem {V J : Type 0} (old new : Progress V J) : Type 0 where
  pub judge : new.judge ≡ old.judge
  pub forest : new.forest ≡ old.forest
  pub stage : SameRanges old.stage new.stage
  pub counts : new.counts ≡ old.counts
