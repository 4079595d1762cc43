use Rattle.zf_plan.proofs.Prelude.{trees_of, IsFlat}
use Rattle.zf_plan.proofs.forest.Forest.flat.Given as goal

-- The leaves that were passed are its conjuncts.
abbrev pub invariant-loop-of : goal.invariant-loop-of
invariant-loop-of l = IsFlat l.of (trees_of l.forest)
