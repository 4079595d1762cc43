use Rattle.zf_value.proofs.Prelude.{◌∙◌, ap, Global, subst, sym, take, Vec, IsSelected, IsGathered, Value}
use Rattle.zf_value.proofs.Gathered.{gathered_none, step_push, step_pass, gathered_all}
use Rattle.zf_value.proofs.part.selected.Goals as goal
use Rattle.zf_value.proofs.part.selected.Goals.{in-Some+in_ok-copy+in_ok-push, in_default}

pub loop-z-init : goal.loop-z-init
loop-z-init c = gathered_none _ _ c.new-out.ensures.items

pub loop-z-preserved : goal.loop-z-preserved
loop-z-preserved c =
    let by = c.args.selection.now in
    elim c.match-of.branch [
      | in-Some+in_ok-copy+in_ok-push w ↦
          step_push _ _ c.loop-z.z-index _ _ _ _ _ _ c.z-item.is c.loop-z-test.true c.loop-z.invariant c.of.ensures w.in-Some.is w.in_ok-copy.ensures
          (ap (λ v. v.items) w.out-is ∙ w.in_ok-push.ensures.items)
      | in_default w ↦
          step_pass _ _ c.loop-z.z-index _ _ _ c.z-item.is c.loop-z-test.true
          (subst (λ (v : Vec Value Global). IsGathered (IsSelected by.test by.keep by.set.now by.given)
          (take c.loop-z.z-index c.args.values.now) v.items) (sym w.out-is) c.loop-z.invariant) c.of.ensures w.in_default.is
    ]

pub returns : goal.returns
returns c = gathered_all _ c.args.values.now c.loop-z.z-index _ c.loop-z-test.false c.loop-z.invariant
