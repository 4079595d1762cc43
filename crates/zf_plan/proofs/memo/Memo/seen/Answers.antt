use Rattle.zf_plan.proofs.Prelude.{arith, length, subst, ◌≡◌, AreSeenOf}
use Rattle.zf_plan.proofs.Seeing.{seen-first, seen-more}
use Rattle.zf_plan.proofs.memo.Memo.seen.Goals as goal

pub loop-i-init : goal.loop-i-init
loop-i-init g c = seen-first (g.J.Judge.conjuncts c.args.problem.now.judge.now) c.args.problem.now.ranges.now c.args.places.now c.args.leaves.now c.all-all.result c.all-all.ensures

pub loop-i-preserved : goal.loop-i-preserved
loop-i-preserved g c =
    seen-more (g.J.Judge.conjuncts c.args.problem.now.judge.now) c.args.problem.now.ranges.now c.args.places.now c.args.leaves.now c.loop-i.i c.loop-i.all c.seen-seen.result c.and-all.result
    c.and-all.ensures.refuted c.and-all.ensures.held c.loop-i.invariant c.seen-seen.ensures

pub returns : goal.returns
returns g c =
    let n = length c.args.leaves.now in
    let all : c.loop-i.i ≡ n = omega (arith, c.loop-i-test.false, c.loop-i.auto.i-end) in
    subst (λ i. AreSeenOf (g.J.Judge.conjuncts c.args.problem.now.judge.now) c.args.problem.now.ranges.now c.args.places.now c.args.leaves.now i c.loop-i.all) all c.loop-i.invariant
