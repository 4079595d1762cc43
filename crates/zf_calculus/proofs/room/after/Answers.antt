use Rattle.zf_calculus.proofs.Prelude.{arith, set_of, none_left, measured}
use Rattle.zf_calculus.proofs.Counting.{counted_ahead}
use Rattle.zf_calculus.proofs.room.after.Goals as goal

pub loop-domain-preserved : goal.loop-domain-preserved
loop-domain-preserved c = omega (arith, c.loop-domain.invariant, counted_ahead (measured c.args.measure) set_of _ _ _ c.in-Some.ensures.steps, c.in_ok-left.ensures)

pub returns-in_err-left : goal.returns-in_err-left
returns-in_err-left c =
    none_left _ _ _ c.from_residual.ensures
    (omega (arith, c.loop-domain.invariant, counted_ahead (measured c.args.measure) set_of _ _ _ c.in-Some.ensures.steps, c.in_err-left.ensures))
