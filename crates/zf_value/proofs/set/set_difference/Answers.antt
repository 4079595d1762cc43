use Rattle.zf_value.proofs.Listed.{set_difference_made}
use Rattle.zf_value.proofs.set.set_difference.Goals as goal

pub returns : goal.returns
returns c = rw (← c.members.ensures.is, ← c.members-2.ensures.is) (set_difference_made _ _ _ _ c.in_ok-kept.ensures c.display.ensures)
