use Rattle.zf_plan.proofs.Prelude.{trees_of, Covers}
use Rattle.zf_plan.proofs.plan.blame_at.Given as goal

-- There is a bit for each component that the first conjuncts use.
abbrev pub invariant-loop-conjunct : goal.invariant-loop-conjunct
invariant-loop-conjunct g l = Covers (g.J.Judge.conjuncts l.judge) (g.J.Judge.is_used l.judge) (trees_of l.forest) l.due l.conjunct l.word
