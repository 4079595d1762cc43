use Rattle.zf_cores.proofs.Prelude.{arith, Bool, List, OneOf, subst}
use Rattle.zf_cores.proofs.LeftOut.{all_tried, drops, keeps}
use Rattle.zf_cores.proofs.trimming.minimal.Goals.{then-branch, else-branch}
use Rattle.zf_cores.proofs.trimming.minimal.Goals as goal

pub loop-place-preserved : goal.loop-place-preserved
loop-place-preserved g c =
    let Possible = g.T.Trial.Possible c.args.trial.now in
    let fewer = g.T.Trial.fewer c.args.trial.now in
    let told = subst (λ (m : List Bool). OneOf (Possible m) (Possible m → ⊥) c.in_ok-is_possible.field-0) c.deref.ensures.value c.in_ok-is_possible.ensures in
    elim c.if-branch.branch [
      | then-branch w ↦ rw w.chosen-is (keeps Possible fewer _ _ _ c.loop-place.invariant (omega (arith, c.count-count.ensures, c.loop-place-test.true)) (rw w.if-branch.true at told))
      | else-branch w ↦ rw w.chosen-is (drops Possible fewer _ _ _ c.loop-place.invariant (omega (arith, c.count-count.ensures, c.loop-place-test.true)) (rw w.if-branch.false at told))
    ]

pub returns : goal.returns
returns g c = all_tried _ _ _ _ c.loop-place.invariant (omega (arith, c.count-count.ensures, c.loop-place-test.false))
