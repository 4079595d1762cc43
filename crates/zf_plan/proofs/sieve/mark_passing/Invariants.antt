use Rattle.zf_plan.proofs.Prelude.{◌≡◌, Remembers, trees_of, AreSifted}
use Rattle.zf_plan.proofs.sieve.mark_passing.Given as goal

-- What is remembered is right, no test is counted, and the values so far are marked.
abbrev pub invariant-loop-place : goal.invariant-loop-place
invariant-loop-place g l = record {
  same : l.longer.items ≡ l.places;
  remembers : Remembers (g.J.Judge.conjuncts l.problem.judge.now) (g.J.Judge.is_used l.problem.judge.now) l.problem.ranges.now l.places l.memo;
  tests : l.memo.tests ≡ l.initial.memo.tests;
  passes : AreSifted (g.J.Judge.conjuncts l.problem.judge.now) (trees_of l.problem.forest.now) l.problem.ranges.now l.conjuncts l.places l.place l.passes.items;
}
