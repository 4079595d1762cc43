use Rattle.zf_ranges.proofs.Prelude.{map, take, comp_of, environment_of, AreHeldRanges}
use Rattle.zf_ranges.proofs.component.held_ranges.Given as goal

abbrev pub invariant-loop-place : goal.invariant-loop-place
invariant-loop-place l = AreHeldRanges (environment_of l.env) (take l.place (map comp_of l.components)) l.held l.ranges.items
