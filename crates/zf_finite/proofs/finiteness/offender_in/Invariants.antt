use Rattle.zf_finite.proofs.Prelude.{◌≡◌, map, globals_of, set_of, sets_of, first, all_set_offenders, option_or}
use Rattle.zf_finite.proofs.finiteness.offender_in.Given as goal

abbrev pub invariant-loop-domain : goal.invariant-loop-domain
invariant-loop-domain l =
    first (all_set_offenders (globals_of l.globals) (sets_of (map set_of l.domains)))
    ≡ option_or l.offender (first (all_set_offenders (globals_of l.globals) (sets_of (map set_of l.domain-iterator))))
