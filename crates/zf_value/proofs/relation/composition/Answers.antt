use Rattle.zf_value.proofs.Prelude.{◌+◌, Global, subst, sym, take, Vec, members, IsGathered, Value}
use Rattle.zf_value.proofs.Compositions.{Composes, composed_more, composed_pass, composition_made, composition_out}
use Rattle.zf_value.proofs.Gathered.{gathered_none, gathered_same, gathered_all}
use Rattle.zf_value.proofs.Making.{out_told}
use Rattle.zf_value.proofs.relation.composition.Goals as goal
use Rattle.zf_value.proofs.relation.composition.Goals.{in-Some+in_ok-pair_all+in_ok-is_too_many+else-branch, in_default}

pub loop-z-init : goal.loop-z-init
loop-z-init c = gathered_none _ _ c.new-values.ensures.items

pub returns-then-branch : goal.returns-then-branch
returns-then-branch c =
    let more = composed_more _ _ c.loop-z.z-index _ _ _ _ _ _ c.z-item.is c.loop-z-test.true c.in-Some.ensures.is c.related.ensures c.in_ok-pair_all.ensures c.loop-z.invariant in
    rw (← c.members-z-items.ensures.is) (composition_out _ _ _ (c.loop-z.z-index + 1) (gathered_same _ _ _ _ c.in_ok-is_too_many.ensures.members more)
    (out_told _ _ c.if-branch.true c.in_ok-is_too_many.ensures.told))

pub loop-z-preserved : goal.loop-z-preserved
loop-z-preserved c =
    elim c.match-pair.branch [
      | in-Some+in_ok-pair_all+in_ok-is_too_many+else-branch w ↦
          let more = composed_more _ _ c.loop-z.z-index _ _ _ _ _ _ c.z-item.is c.loop-z-test.true w.in-Some.ensures.is w.related.ensures w.in_ok-pair_all.ensures c.loop-z.invariant in
          subst (λ (v : Vec Value Global). IsGathered (Composes (members c.args.q.now)) (take (c.loop-z.z-index + 1) c.members-z-items.result.now) v.items)
          (sym w.values-is) (gathered_same _ _ _ _ w.in_ok-is_too_many.ensures.members more)
      | in_default w ↦
          composed_pass _ _ c.loop-z.z-index _ _ c.z-item.is c.loop-z-test.true w.in_default.ensures.none
          (subst (λ (v : Vec Value Global). IsGathered (Composes (members c.args.q.now)) (take c.loop-z.z-index c.members-z-items.result.now) v.items)
          (sym w.values-is) c.loop-z.invariant)
    ]

pub returns : goal.returns
returns c = rw (← c.members-z-items.ensures.is) (composition_made _ _ _ _ (gathered_all _ _ c.loop-z.z-index _ c.loop-z-test.false c.loop-z.invariant) c.display.ensures)
