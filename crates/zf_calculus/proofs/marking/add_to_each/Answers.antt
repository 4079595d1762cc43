use Rattle.std.proofs.Common.{arith}
use Rattle.zf_calculus.proofs.Decorating.{one_more_stroked, all_stroked}
use Rattle.zf_calculus.proofs.marking.add_to_each.Goals as goal

pub loop-component-preserved : goal.loop-component-preserved
loop-component-preserved c =
    one_more_stroked c.args.strokes.now c.loop-component.components c.loop-component.component-index c.component-item.result c.in_ok-component.field-0 _
    (omega (arith, c.loop-component-test.true, c.loop-component.auto.components)) c.in_ok-component.ensures c.loop-component.invariant

pub returns : goal.returns
returns c =
    all_stroked c.args.strokes.now c.loop-component.components c.loop-component.component-index _
    (omega (arith, c.loop-component-test.false, c.loop-component.auto.components)) c.loop-component.invariant
