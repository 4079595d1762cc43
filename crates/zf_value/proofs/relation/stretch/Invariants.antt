use Rattle.zf_value.proofs.Prelude.{◌-◌, ◌≤◌, length}
use Rattle.zf_value.proofs.Stretches.{AreBefore, IsStart}
use Rattle.zf_value.proofs.relation.stretch.Given as goal

abbrev pub invariant-loop-end : goal.invariant-loop-end
invariant-loop-end l = IsStart l.x l.r l.start × AreBefore l.x l.r l.end × (l.end ≤ length l.r)

abbrev pub decreases-loop-end : goal.decreases-loop-end
decreases-loop-end l = length l.r - l.end
