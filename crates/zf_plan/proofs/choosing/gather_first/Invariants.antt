use Rattle.zf_plan.proofs.Prelude.{◌≡◌, Remembers}
use Rattle.zf_plan.proofs.choosing.gather_first.Given as goal

-- What is remembered is right, and no test is counted.
abbrev pub invariant-loop-i : goal.invariant-loop-i
invariant-loop-i g l =
    Remembers (g.J.Judge.conjuncts l.problem.judge.now) (g.J.Judge.is_used l.problem.judge.now) l.problem.ranges.now l.places l.memo × (l.memo.tests ≡ l.initial.memo.tests)
