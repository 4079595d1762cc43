use Rattle.zf_finite.proofs.FirstCauses.{plain_step}
use Rattle.zf_finite.proofs.finiteness.+plain.Goals as goal

pub all_plain_after-loop-domain-preserved : goal.all_plain_after-loop-domain-preserved
all_plain_after-loop-domain-preserved t c = plain_step _ _ _ _ _ _ c.domain-item.is c.loop-domain-test.true c.loop-domain.invariant c.plain_after-span.ensures
