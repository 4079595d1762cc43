use Rattle.zf_lift.proofs.Prelude.{◌+◌, ◌≡◌, map, take, range_of, ranges, variables_of}
use Rattle.zf_lift.proofs.lifting.bound_behind.Given as goal

abbrev pub invariant-loop-range : goal.invariant-loop-range
invariant-loop-range l = l.bound ≡ l.depth + variables_of (ranges (map range_of (take l.range-index l.variables)))
