use Rattle.zf_value.proofs.Listed.{range_made}
use Rattle.zf_value.proofs.relation.range.Goals as goal

pub returns : goal.returns
returns c = rw (← c.members.ensures.is) (range_made _ _ _ c.in_ok-parts.ensures c.display.ensures)
