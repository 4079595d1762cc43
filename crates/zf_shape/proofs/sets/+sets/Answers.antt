use Rattle.std.proofs.Common.{arith}
use Rattle.zf_shape.proofs.SetsCounted.{counts_more}
use Rattle.zf_shape.proofs.sets.+sets.Goals as goal

pub room_after_all_sets-loop-domain-preserved : goal.room_after_all_sets-loop-domain-preserved
room_after_all_sets-loop-domain-preserved t c = omega (arith, c.loop-domain.invariant, c.in_ok-left.ensures, counts_more _ _ _ c.domain-item.is c.loop-domain-test.true)
