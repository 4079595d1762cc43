use Rattle.zf_finite.proofs.Prelude.{◌≡◌, map, globals_of, set_of, sets_of, one_bounds}
use Rattle.zf_finite.proofs.finiteness.is_bounded.Given as goal

abbrev pub invariant-loop-domain : goal.invariant-loop-domain
invariant-loop-domain l =
    one_bounds l.numbers (globals_of l.globals) (sets_of (map set_of l.domains)) ≡ one_bounds l.numbers (globals_of l.globals) (sets_of (map set_of l.domain-iterator))
