use Rattle.zf_plan.proofs.Prelude.{arith, subst, AreUnknown}
use Rattle.zf_plan.proofs.memo.unknown_leaves.Goals as goal

pub returns : goal.returns
returns g c =
    subst (λ n. AreUnknown (g.J.Judge.conjuncts c.args.judge.now) n c.loop-leaf.leaves.items)
    (omega (arith, c.loop-leaf-test.false, c.loop-leaf.auto.leaf-end, c.count-count.ensures)) c.loop-leaf.invariant
