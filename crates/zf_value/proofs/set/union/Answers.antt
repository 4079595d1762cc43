use Rattle.zf_value.proofs.Listed.{union_made}
use Rattle.zf_value.proofs.set.union.Goals as goal

pub returns : goal.returns
returns c = rw (← c.members.ensures.is, ← c.members-2.ensures.is) (union_made _ _ _ _ c.in_ok-values.ensures.joined c.set_of.ensures)
