-- None is marked up to here. The end may be passed.
use Rattle.zf_parts.proofs.Prelude.{◌-◌, ◌≤◌, AreFree}
use Rattle.zf_parts.proofs.marks.Marks.next.Given as goal

abbrev pub invariant-loop-number : goal.invariant-loop-number
invariant-loop-number l = (l.from ≤ l.number) × AreFree l.self l.from l.number

abbrev pub decreases-loop-number : goal.decreases-loop-number
decreases-loop-number l = l.end - l.number
