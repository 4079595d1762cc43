use Rattle.zf_ranges.proofs.Prelude.{◌≡◌, drop, map, globals_of, set_of, sets_of, one_bounds}
use Rattle.zf_ranges.proofs.bounding.first_bounding.Given as goal

abbrev pub invariant-loop-place : goal.invariant-loop-place
invariant-loop-place l =
    one_bounds l.numbers (globals_of l.globals) (sets_of (map set_of l.domains)) ≡ one_bounds l.numbers (globals_of l.globals) (sets_of (map set_of (drop l.place l.domains)))
