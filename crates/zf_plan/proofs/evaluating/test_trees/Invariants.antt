use Rattle.zf_plan.proofs.Prelude.{◌≡◌, ◌≢◌, length, False, picked, trees_of, Remembers, IsSoFar}
use Rattle.zf_plan.proofs.SoFar.{IsFirst}
use Rattle.zf_plan.proofs.evaluating.test_trees.Given as goal

-- What is remembered is right, no test is counted, and this is the truth of the first of these conjuncts and of what was found before.
abbrev pub invariant-loop-i : goal.invariant-loop-i
invariant-loop-i g l = Remembers (g.J.Judge.conjuncts l.problem.judge.now) (g.J.Judge.is_used l.problem.judge.now) l.problem.ranges.now l.places l.memo
    × (l.memo.tests ≡ l.initial.memo.tests)
    × (l.all ≢ False)
    × (l.i ≡ 0 → l.all ≡ l.fn.before)
    × IsSoFar (g.J.Judge.conjuncts l.problem.judge.now) (trees_of l.problem.forest.now) (picked l.problem.ranges.now l.places)
    (IsFirst (g.J.Judge.conjuncts l.problem.judge.now) (trees_of l.problem.forest.now) (length l.places) l.conjuncts l.i) l.all
