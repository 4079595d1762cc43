use Rattle.zf_schema.proofs.Prelude.{at_step, if_fault, inl, rules, globals_of, Offence, OffendsGiven, IsTaken, Span}
use Rattle.zf_schema.proofs.paragraph.add_given.Goals as goal

pub returns-in_err-add_name-clause-fault : goal.returns-in_err-add_name-clause-fault
returns-in_err-add_name-clause-fault c =
    let g = globals_of c.loop-place.globals in
    let step : (k : Offence) (m : Span) → IsTaken g c.index-names-place.result k m → OffendsGiven (globals_of c.args.globals.now) c.args.names.now k m =
    λ k m o. c.loop-place.invariant.offends k m (at_step (λ ns. OffendsGiven g ns k m) c.args.names.now c.loop-place.place c.index-names-place.result
    c.index-names-place.is c.loop-place-test.true (inl o)) in
    let fact = if_fault _ _ _ step c.in_err-add_name.ensures.fault in
    search rules
