use Rattle.zf_term.specs.{globals_of}
use Rattle.zf_finite.proofs.FirstCauses.{sets_step}
use Rattle.zf_finite.proofs.finiteness.+sets.Goals as goal

pub all_offending_after-loop-domain-preserved : goal.all_offending_after-loop-domain-preserved
all_offending_after-loop-domain-preserved t c = sets_step (globals_of c.args.globals.now) _ _ _ _ _ _ c.domain-item.is c.loop-domain-test.true
    c.loop-domain.invariant c.set_offending_after-offender.ensures
