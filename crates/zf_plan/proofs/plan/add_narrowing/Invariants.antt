use Rattle.zf_plan.proofs.Prelude.{length, trees_of, AreBelow}
use Rattle.zf_plan.proofs.plan.add_narrowing.Given as goal

-- They are conjuncts.
abbrev pub invariant-loop-conjunct : goal.invariant-loop-conjunct
invariant-loop-conjunct g l = AreBelow (length (trees_of l.forest)) l.numbers.items
