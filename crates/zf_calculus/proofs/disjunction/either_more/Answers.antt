use Rattle.zf_calculus.proofs.Prelude.{arith, map, refl, comp_of}
use Rattle.zf_calculus.proofs.Disjoining.{more_known, more_new, more_than_few}
use Rattle.zf_calculus.proofs.disjunction.either_more.Goals as goal

pub returns-in-Some-clause-ok : goal.returns-in-Some-clause-ok
returns-in-Some-clause-ok c =
    more_known (map comp_of c.args.left.now) (map comp_of c.args.right.now) c.as_slice-2.result.now c.args.component.now c.as_slice.result.now c.args.made.now
    c.in-Some.field-0 c.as_slice-2.ensures c.as_slice.ensures c.in-Some.ensures

pub returns-then-len-ge-COMPONENTS_MAX-clause-err : goal.returns-then-len-ge-COMPONENTS_MAX-clause-err
returns-then-len-ge-COMPONENTS_MAX-clause-err c = (
  refl,
  more_than_few (map comp_of c.args.left.now) (map comp_of c.args.right.now) c.as_slice-2.result.now c.args.component.now c.as_slice.result.now c.args.made.now
      c.as_slice-2.ensures c.as_slice.ensures c.in-None.ensures (omega (arith, c.len.ensures, c.if-len-ge-COMPONENTS_MAX.true)),
)

pub returns-in_ok-push-in-None-clause-ok : goal.returns-in_ok-push-in-None-clause-ok
returns-in_ok-push-in-None-clause-ok c =
    more_new (map comp_of c.args.left.now) (map comp_of c.args.right.now) c.as_slice-2.result.now c.args.component.now c.in_ok-either-in-None.field-0
    c.as_slice.result.now c.args.made.now c.push.new.self c.as_slice-2.ensures c.as_slice.ensures c.in-None.ensures c.in_ok-either-in-None.ensures
    c.in_ok-push-in-None.ensures.ok
