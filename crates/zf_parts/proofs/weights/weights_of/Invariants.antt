-- The components from i on are weighed.
use Rattle.zf_parts.proofs.Weighing.{Weighing}
use Rattle.zf_parts.proofs.weights.weights_of.Given as goal

abbrev pub invariant-loop-i : goal.invariant-loop-i
invariant-loop-i l = Weighing l.ranges l.places l.i l.each.items l.count

abbrev pub decreases-loop-i : goal.decreases-loop-i
decreases-loop-i l = l.i
