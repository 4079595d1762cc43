use Rattle.std.proofs.Common.{arith}
use Rattle.zf_shape.proofs.SetsCounted.{nodes_more}
use Rattle.zf_shape.proofs.sets.+nodes.Goals as goal

pub room_after_all_nodes-loop-domain-preserved : goal.room_after_all_nodes-loop-domain-preserved
room_after_all_nodes-loop-domain-preserved t c = omega (arith, c.loop-domain.invariant, c.in_ok-left.ensures, nodes_more _ _ _ c.domain-item.is c.loop-domain-test.true)
