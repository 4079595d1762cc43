use Rattle.zf_finite.proofs.Prelude.{◌≡◌, flat_map, map, conjunct_of, globals_of, first, offending, option_or}
use Rattle.zf_finite.proofs.finiteness.offender_among.Given as goal

abbrev pub invariant-loop-conjunct : goal.invariant-loop-conjunct
invariant-loop-conjunct l =
    first (flat_map (offending (globals_of l.globals)) (map conjunct_of l.conjuncts))
    ≡ option_or l.offender (first (flat_map (offending (globals_of l.globals)) (map conjunct_of l.conjunct-iterator)))
