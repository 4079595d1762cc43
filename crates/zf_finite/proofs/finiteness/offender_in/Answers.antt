use Rattle.zf_finite.proofs.Prelude.{map, refl, globals_of, set_of, sets_of, all_set_offenders, set_offenders}
use Rattle.zf_finite.proofs.FirstCauses.{step_ahead}
use Rattle.zf_finite.proofs.finiteness.offender_in.Goals as goal

pub loop-domain-preserved : goal.loop-domain-preserved
loop-domain-preserved c =
    let g = globals_of c.args.globals.now in
    step_ahead (λ ds. all_set_offenders g (sets_of (map set_of ds))) (set_offenders g (set_of c.in-Some.domain.now)) _ _ _ _ _ _ c.in-Some.ensures.steps refl
    c.loop-domain.invariant c.set_offending_after-offender.ensures
