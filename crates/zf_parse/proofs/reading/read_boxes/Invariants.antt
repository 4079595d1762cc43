use Rattle.zf_parse.proofs.Prelude.{◌-◌, length, ReadsUpTo}
use Rattle.zf_parse.proofs.reading.read_boxes.Given as goal

-- the boxes so far are those up to the border
abbrev pub invariant-loop-border : goal.invariant-loop-border
invariant-loop-border l = ReadsUpTo l.source l.border l.boxes

abbrev pub decreases-loop-border : goal.decreases-loop-border
decreases-loop-border l = length l.source - l.border.start
