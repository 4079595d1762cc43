-- What is left is to be added before the digits from i on.
use Rattle.zf_parts.proofs.Prelude.{◌+◌, counted, ranges_at}
use Rattle.zf_parts.proofs.Counting.{Counting}
use Rattle.zf_parts.proofs.part_row.count_on.Given as goal

abbrev pub invariant-loop-left : goal.invariant-loop-left
invariant-loop-left l = Counting l.ranges l.places (counted (ranges_at l.ranges l.places) l.initial.digits.items + l.fn.more) l.i l.left l.digits.items

abbrev pub decreases-loop-left : goal.decreases-loop-left
decreases-loop-left l = l.i
