use Rattle.zf_value.proofs.Prelude.{◌∙◌, ap, Global, subst, sym, take, Vec, IsGathered, Value}
use Rattle.zf_value.proofs.Gathered.{gathered_none, gathered_all}
use Rattle.zf_value.proofs.Listed.{IsTurned, inverse_made, turned_more, turned_pass}
use Rattle.zf_value.proofs.relation.inverse.Goals as goal
use Rattle.zf_value.proofs.relation.inverse.Goals.{in-Some+in_ok-pair_of+in_ok-push, in_default}

pub loop-z-init : goal.loop-z-init
loop-z-init c = gathered_none _ _ c.new-values.ensures.items

pub loop-z-preserved : goal.loop-z-preserved
loop-z-preserved c =
    elim c.match-pair.branch [
      | in-Some+in_ok-pair_of+in_ok-push w ↦
          turned_more _ c.loop-z.z-index _ _ _ _ _ _ c.z-item.is c.loop-z-test.true c.loop-z.invariant w.in-Some.ensures.is w.in_ok-pair_of.ensures
          (ap (λ (v : Vec Value Global). v.items) w.values-is ∙ w.in_ok-push.ensures.items)
      | in_default w ↦
          turned_pass _ c.loop-z.z-index _ _ c.z-item.is c.loop-z-test.true
          (subst (λ (v : Vec Value Global). IsGathered IsTurned (take c.loop-z.z-index c.members-z-items.result.now) v.items)
          (sym w.values-is) c.loop-z.invariant) w.in_default.ensures.none
    ]

pub returns : goal.returns
returns c = rw (← c.members-z-items.ensures.is) (inverse_made _ _ _ (gathered_all _ _ c.loop-z.z-index _ c.loop-z-test.false c.loop-z.invariant) c.display.ensures)
