use Rattle.zf_plan.proofs.Prelude.{trees_of, AreTouched}
use Rattle.zf_plan.proofs.plan.touched_at.Given as goal

-- They are those of the first conjuncts.
abbrev pub invariant-loop-conjunct : goal.invariant-loop-conjunct
invariant-loop-conjunct g l = AreTouched (g.J.Judge.conjuncts l.judge) (trees_of l.forest) l.due l.conjunct l.numbers.items
