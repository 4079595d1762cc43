use Rattle.zf_schema.proofs.Prelude.{at_step, if_fault, inl, rules, spelling, globals_of, Offence, OffendsConstructors, IsTaken, Span}
use Rattle.zf_schema.proofs.paragraph.add_constructors.Goals as goal

pub returns-in_err-add_name-clause-fault : goal.returns-in_err-add_name-clause-fault
returns-in_err-add_name-clause-fault c =
    let g = globals_of c.loop-place.globals in
    let t = spelling c.args.of_type.now in
    let step : (k : Offence) (m : Span) → IsTaken g c.index-names-place.result k m → OffendsConstructors (globals_of c.args.globals.now) c.args.number t 0 c.args.names.now k m =
    λ k m o. c.loop-place.invariant.offends k m (at_step (λ ns. OffendsConstructors g c.args.number t c.loop-place.place ns k m) c.args.names.now
    c.loop-place.place c.index-names-place.result c.index-names-place.is c.loop-place-test.true (inl o)) in
    let fact = if_fault _ _ _ step c.in_err-add_name.ensures.fault in
    search rules
