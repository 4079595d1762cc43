use Rattle.zf_plan.specs.{AreSeenOf}
use Rattle.zf_plan.proofs.memo.Memo.seen.Given as goal

-- What is known of the leaves so far.
abbrev pub invariant-loop-i : goal.invariant-loop-i
invariant-loop-i g l = AreSeenOf (g.J.Judge.conjuncts l.problem.judge.now) l.problem.ranges.now l.places l.leaves l.i l.all
