use Rattle.zf_families.proofs.Prelude.{◌+◌, ◌≡◌, subst, take_all, IsAscending, members, SET_MAX, AllByRecursion}
use Rattle.zf_families.proofs.Counts.{count_more}
use Rattle.zf_families.proofs.Tuples.{every_next}
use Rattle.zf_families.proofs.cross.size.Goals as goal

pub loop-set-preserved : goal.loop-set-preserved
loop-set-preserved c =
    let read : c.members.result.now ≡ members c.set-item.result = cc (c.members.ensures.is, c.get.ensures) in (
      count_more c.args.sets.now c.loop-set.set-index c.set-item.result c.loop-set.size c.product-size.result
          (SET_MAX + 1) c.loop-set-test.true c.set-item.is c.loop-set.invariant.0 (cc (c.product-size.ensures, read)),
      every_next (λ s. IsAscending (members s)) c.args.sets.now c.loop-set.set-index c.set-item.result c.loop-set-test.true c.set-item.is
          (subst IsAscending read c.members.ensures.ascending) c.loop-set.invariant.1,
    )

pub returns-clause-ascending : goal.returns-clause-ascending
returns-clause-ascending c = subst (AllByRecursion (λ s. IsAscending (members s))) (take_all c.loop-set.set-index c.args.sets.now c.loop-set-test.false) c.loop-set.invariant.1
