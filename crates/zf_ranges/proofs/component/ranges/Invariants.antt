use Rattle.zf_ranges.proofs.Prelude.{map, take, comp_of, environment_of, AreAllRanges}
use Rattle.zf_ranges.proofs.component.ranges.Given as goal

abbrev pub invariant-loop-place : goal.invariant-loop-place
invariant-loop-place l = AreAllRanges (environment_of l.env) (take l.place (map comp_of l.components)) l.held l.ranges.items
