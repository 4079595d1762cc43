use Rattle.zf_lift.proofs.Prelude.{arith}
use Rattle.zf_lift.proofs.Arms.{bound_more, bound_all}
use Rattle.zf_lift.proofs.lifting.bound_behind.Goals as goal

pub loop-range-init : goal.loop-range-init
loop-range-init c = omega arith

pub loop-range-preserved : goal.loop-range-preserved
loop-range-preserved c =
    let l = c.loop-range in
    bound_more c.args.depth c.args.variables.now l.range-index l.bound c.in-Some.more c.range-item.result c.checked_add.result _ c.range-item.is
    c.loop-range-test.true l.invariant c.checked_add.ensures c.in-Some.is

pub returns : goal.returns
returns c = let l = c.loop-range in bound_all c.args.depth c.args.variables.now l.range-index l.bound c.loop-range-test.false l.invariant
