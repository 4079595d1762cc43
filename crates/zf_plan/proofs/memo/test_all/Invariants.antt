use Rattle.zf_plan.proofs.Prelude.{picked, AreTrue, ArePassed}
use Rattle.zf_plan.proofs.memo.test_all.Given as goal

-- The tables are right, and the leaves so far are not False.
abbrev pub invariant-loop-i : goal.invariant-loop-i
invariant-loop-i g l = AreTrue (g.J.Judge.conjuncts l.problem.judge.now) (g.J.Judge.is_used l.problem.judge.now) l.problem.ranges.now l.tables.each.items
    × ArePassed (g.J.Judge.conjuncts l.problem.judge.now) (picked l.problem.ranges.now l.places) l.leaves l.fn.before l.i l.all
