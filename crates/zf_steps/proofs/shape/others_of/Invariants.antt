-- The others so far, and those ahead.
use Rattle.zf_steps.proofs.Prelude.{◌++◌, ◌≡◌, drop, map, comp_of, before_of, others_from}
use Rattle.zf_steps.proofs.shape.others_of.Given as goal

abbrev pub invariant-loop-place : goal.invariant-loop-place
invariant-loop-place l =
    l.others.items ++ others_from (before_of l.states) l.place (drop l.place (map comp_of l.components)) ≡ others_from (before_of l.states) 0 (map comp_of l.components)
