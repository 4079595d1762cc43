-- The values at the places from i on are numbered.
use Rattle.zf_parts.proofs.Weighing.{Numbering}
use Rattle.zf_parts.proofs.weights.Weights.number_of.Given as goal

abbrev pub invariant-loop-i : goal.invariant-loop-i
invariant-loop-i g l = Numbering (g.P.Located.ranges l.row) l.places (g.P.Row.values l.row) l.i l.number

abbrev pub decreases-loop-i : goal.decreases-loop-i
decreases-loop-i g l = l.i
