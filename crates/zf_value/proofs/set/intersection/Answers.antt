use Rattle.zf_value.proofs.Listed.{intersection_made}
use Rattle.zf_value.proofs.set.intersection.Goals as goal

pub returns : goal.returns
returns c = rw (← c.members.ensures.is, ← c.members-2.ensures.is) (intersection_made _ _ _ _ c.in_ok-kept.ensures c.display.ensures)
