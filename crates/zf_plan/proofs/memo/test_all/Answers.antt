use Rattle.zf_plan.proofs.Prelude.{◌+◌, ◌∙◌, ◌≡◌, arith, length, refl, subst, sym, picked, ArePassed, Tests}
use Rattle.zf_plan.proofs.Testing.{passed-first, passed-next, tests-false, tests-all}
use Rattle.zf_plan.proofs.memo.test_all.Goals as goal

pub loop-i-init : goal.loop-i-init
loop-i-init g c = (
  c.requires.known,
  passed-first (g.J.Judge.conjuncts c.args.problem.now.judge.now) (picked c.args.problem.now.ranges.now c.args.places.now) c.args.leaves.now c.args.before c.args.before refl c.requires.before,
)

pub truth_of-requires-clause-known : goal.truth_of-requires-clause-known
truth_of-requires-clause-known g c = c.loop-i.invariant.0

pub returns-in-False-clause-tests : goal.returns-in-False-clause-tests
returns-in-False-clause-tests g c =
    let l = g.J.Judge.conjuncts c.args.problem.now.judge.now in
    let row = picked c.args.problem.now.ranges.now c.args.places.now in
    subst (λ t. Tests l row c.args.leaves.now c.args.before t (c.loop-i.i + 1)) (sym c.in-False.is)
    (tests-false l row c.args.leaves.now c.args.before c.loop-i.i c.loop-i.all c.in_ok-truth.truth c.conjoin-all.result c.loop-i.invariant.1
    c.in_ok-truth.ensures.says c.conjoin-all.ensures c.in-False.is c.loop-i-test.true)

pub loop-i-preserved : goal.loop-i-preserved
loop-i-preserved g c =
    let l = g.J.Judge.conjuncts c.args.problem.now.judge.now in
    let row = picked c.args.problem.now.ranges.now c.args.places.now in (
      c.in_ok-truth.ensures.known,
      subst (ArePassed l row c.args.leaves.now c.args.before (c.loop-i.i + 1)) (sym c.conjoin-all.ensures)
          (passed-next l row c.args.leaves.now c.args.before c.loop-i.i c.loop-i.all c.in_ok-truth.truth c.loop-i.invariant.1 c.in_ok-truth.ensures.says
          (λ e. c.in_default.not-False (c.conjoin-all.ensures ∙ e))),
    )

pub returns-clause-tests : goal.returns-clause-tests
returns-clause-tests g c =
    let l = g.J.Judge.conjuncts c.args.problem.now.judge.now in
    let row = picked c.args.problem.now.ranges.now c.args.places.now in
    let n = length c.args.leaves.now in
    let all : c.loop-i.i ≡ n = omega (arith, c.loop-i-test.false, c.loop-i.auto.i-end) in
    tests-all l row c.args.leaves.now c.args.before c.loop-i.all n refl
    (subst (λ i. ArePassed l row c.args.leaves.now c.args.before i c.loop-i.all) all c.loop-i.invariant.1)
