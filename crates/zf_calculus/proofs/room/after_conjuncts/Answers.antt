use Rattle.zf_calculus.proofs.Prelude.{arith, conjunct_of, nodes, none_left}
use Rattle.zf_calculus.proofs.Counting.{counted_ahead}
use Rattle.zf_calculus.proofs.room.after_conjuncts.Goals as goal

pub loop-conjunct-preserved : goal.loop-conjunct-preserved
loop-conjunct-preserved c = omega (arith, c.loop-conjunct.invariant, counted_ahead nodes conjunct_of _ _ _ c.in-Some.ensures.steps, c.in_ok-left.ensures)

pub returns-in_err-left : goal.returns-in_err-left
returns-in_err-left c =
    none_left _ _ _ c.from_residual.ensures
    (omega (arith, c.loop-conjunct.invariant, counted_ahead nodes conjunct_of _ _ _ c.in-Some.ensures.steps, c.in_err-left.ensures))
