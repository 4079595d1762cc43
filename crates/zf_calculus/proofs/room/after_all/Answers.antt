use Rattle.zf_calculus.proofs.Prelude.{arith, sum_by, comp_of, none_left, measured}
use Rattle.zf_calculus.proofs.Counting.{counted_at}
use Rattle.zf_calculus.proofs.room.after_all.Goals as goal

pub loop-component-preserved : goal.loop-component-preserved
loop-component-preserved c =
    let next = counted_at (λ d. sum_by (measured c.args.measure) d.sets) comp_of c.args.components.now c.loop-component.component-index _ c.loop-component-test.true c.component-item.is in
    omega (arith, c.loop-component.invariant, next, rw c.get.ensures at c.in_ok-left.ensures)

pub returns-in_err-left : goal.returns-in_err-left
returns-in_err-left c =
    let next = counted_at (λ d. sum_by (measured c.args.measure) d.sets) comp_of c.args.components.now c.loop-component.component-index _ c.loop-component-test.true c.component-item.is in
    none_left _ _ _ c.from_residual.ensures (omega (arith, c.loop-component.invariant, next, rw c.get.ensures at c.in_err-left.ensures))
