use Rattle.zf_shape.proofs.Prelude.{ap, arith, length}
use Rattle.zf_shape.proofs.Joined.{count_more}
use Rattle.zf_shape.proofs.conjunct.room_after_count.Goals as goal

pub loop-batch-preserved : goal.loop-batch-preserved
loop-batch-preserved c =
    omega (arith, c.loop-batch.invariant, c.in_ok-left.ensures, c.len.ensures, ap length c.get.ensures, count_more _ _ _ c.batch-item.is c.loop-batch-test.true)
