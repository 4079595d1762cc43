use Rattle.zf_plan.proofs.Prelude.{◌≡◌, ◌≤◌, true, option_copied, trees_of, is_over, KeepsEvents, Stands, steps_left, planted, IsCounted, IsPlain}
use Rattle.zf_plan.proofs.steps.next_answer.Given as goal

-- The same events are ahead, a search that is over stays so, no count is lost, and where each conjunct is a leaf what is counted is so.
abbrev pub invariant-loop-answer : goal.invariant-loop-answer
invariant-loop-answer g l =
    Stands (g.J.Judge.conjuncts l.problem.judge.now) (g.J.Judge.is_used l.problem.judge.now) (trees_of l.problem.forest.now) l.problem.ranges.now l.place l.memo l.choices
    × KeepsEvents g.V.Ord.cmp (planted (g.J.Judge.conjuncts l.problem.judge.now) (trees_of l.problem.forest.now)) l.problem.ranges.now (option_copied l.problem.after) l.initial.place l.place
    × (is_over l.initial.place ≡ true → is_over l.place ≡ true)
    × (l.initial.memo.tests ≤ l.memo.tests)
    × (IsPlain (g.J.Judge.conjuncts l.problem.judge.now) (trees_of l.problem.forest.now) l.problem.plan.now
    → IsCounted g.V.Ord.cmp (g.J.Judge.conjuncts l.problem.judge.now) l.problem.ranges.now (option_copied l.problem.after) l.initial.place l.initial.memo.tests l.initial.choices
    → IsCounted g.V.Ord.cmp (g.J.Judge.conjuncts l.problem.judge.now) l.problem.ranges.now (option_copied l.problem.after) l.place l.memo.tests l.choices)

abbrev pub decreases-loop-answer : goal.decreases-loop-answer
decreases-loop-answer g l = steps_left l.problem.ranges.now l.place
