use Rattle.zf_finite.proofs.Prelude.{map, refl, set_of, sets_of, all_plain_spans, plain_spans}
use Rattle.zf_finite.proofs.FirstCauses.{step_ahead}
use Rattle.zf_finite.proofs.finiteness.plain_in.Goals as goal

pub loop-domain-preserved : goal.loop-domain-preserved
loop-domain-preserved c =
    step_ahead (λ ds. all_plain_spans (sets_of (map set_of ds))) (plain_spans (set_of c.in-Some.domain.now)) _ _ _ _ _ _ c.in-Some.ensures.steps refl c.loop-domain.invariant c.plain_after-span.ensures
