use Rattle.zf_finite.proofs.Prelude.{◌≡◌, drop, map, globals_of, set_of, sets_of, first, all_set_offenders, option_or}
use Rattle.zf_finite.proofs.finiteness.+sets.Given as goal

abbrev pub invariant-all_offending_after-loop-domain : goal.invariant-all_offending_after-loop-domain
invariant-all_offending_after-loop-domain l =
    option_or l.fn.found (first (all_set_offenders (globals_of l.globals) (sets_of (map set_of l.domains))))
    ≡ option_or l.offender (first (all_set_offenders (globals_of l.globals) (sets_of (map set_of (drop l.domain-index l.domain-items)))))
