use Rattle.zf_value.proofs.Listed.{domain_restriction_made}
use Rattle.zf_value.proofs.relation.domain_restriction.Goals as goal

pub returns : goal.returns
returns c = rw (← c.members.ensures.is, ← c.members-2.ensures.is) (domain_restriction_made _ _ _ _ c.in_ok-kept.ensures c.display.ensures)
