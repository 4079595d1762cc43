use Rattle.zf_finite.proofs.Prelude.{◌≡◌, drop, map, globals_of, set_of, sets_of, one_bounds}
use Rattle.zf_finite.proofs.finiteness.+bounds.Given as goal

abbrev pub invariant-one_bounds-loop-domain : goal.invariant-one_bounds-loop-domain
invariant-one_bounds-loop-domain l =
    one_bounds l.numbers (globals_of l.globals) (sets_of (map set_of l.domains)) ≡ one_bounds l.numbers (globals_of l.globals) (sets_of (map set_of (drop l.domain-index l.domain-items)))
