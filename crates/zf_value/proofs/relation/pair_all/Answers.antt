use Rattle.zf_value.proofs.Prelude.{◌∙◌, ap, Global, subst, sym, take, Vec, AddsPairs, Value}
use Rattle.zf_value.proofs.Compositions.{adds_none, adds_pass, adds_push, adds_all}
use Rattle.zf_value.proofs.relation.pair_all.Goals as goal
use Rattle.zf_value.proofs.relation.pair_all.Goals.{in-Some+in_ok-pair_of+in_ok-push, in_default}

pub loop-z-init : goal.loop-z-init
loop-z-init c = adds_none _ _

pub loop-z-preserved : goal.loop-z-preserved
loop-z-preserved c =
    elim c.match-pair.branch [
      | in-Some+in_ok-pair_of+in_ok-push w ↦
          adds_push _ _ c.loop-z.z-index _ _ _ _ _ c.loop-z.values.items _ c.z-item.is c.loop-z-test.true w.in-Some.ensures.is w.in_ok-pair_of.ensures
          (ap (λ (v : Vec Value Global). v.items) w.values-is ∙ w.in_ok-push.ensures.items) c.loop-z.invariant
      | in_default w ↦
          adds_pass _ _ c.loop-z.z-index _ _ _ c.z-item.is c.loop-z-test.true w.in_default.ensures.none
          (subst (λ (v : Vec Value Global). AddsPairs c.args.x.now (take c.loop-z.z-index c.args.pairs.now) c.args.values.now.items v.items)
          (sym w.values-is) c.loop-z.invariant)
    ]

pub returns : goal.returns
returns c = adds_all _ _ c.loop-z.z-index _ _ c.loop-z-test.false c.loop-z.invariant
