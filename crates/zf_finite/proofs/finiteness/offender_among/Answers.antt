use Rattle.zf_finite.proofs.Prelude.{flat_map, map, conjunct_of, globals_of, flat_map-cons, offending}
use Rattle.zf_finite.proofs.FirstCauses.{step_ahead}
use Rattle.zf_finite.proofs.finiteness.offender_among.Goals as goal

pub loop-conjunct-preserved : goal.loop-conjunct-preserved
loop-conjunct-preserved c =
    let g = globals_of c.args.globals.now in
    step_ahead (λ cs. flat_map (offending g) (map conjunct_of cs)) (offending g (conjunct_of c.in-Some.conjunct.now)) _ _ _ _ _ _ c.in-Some.ensures.steps
    (flat_map-cons (offending g) (conjunct_of c.in-Some.conjunct.now) (map conjunct_of c.next.new.self)) c.loop-conjunct.invariant
    c.offending_after-offender.ensures
