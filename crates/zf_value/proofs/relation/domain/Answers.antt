use Rattle.zf_value.proofs.Listed.{domain_made}
use Rattle.zf_value.proofs.relation.domain.Goals as goal

pub returns : goal.returns
returns c = rw (← c.members.ensures.is) (domain_made _ _ _ c.in_ok-parts.ensures c.display.ensures)
