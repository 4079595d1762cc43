use Rattle.zf_value.proofs.Listed.{range_subtraction_made}
use Rattle.zf_value.proofs.relation.range_subtraction.Goals as goal

pub returns : goal.returns
returns c = rw (← c.members.ensures.is, ← c.members-2.ensures.is) (range_subtraction_made _ _ _ _ c.in_ok-kept.ensures c.display.ensures)
