use Rattle.zf_walk.proofs.Prelude.{◌≡◌, drop, picked, reaches}
use Rattle.zf_walk.proofs.reach.reaches.Given as goal

-- what is left decides
abbrev pub invariant-loop-i : goal.invariant-loop-i
invariant-loop-i g l = reaches g.V.Ord.cmp l.here (drop l.i l.named) (drop l.i (picked l.ranges l.places)) ≡ reaches g.V.Ord.cmp l.here l.named (picked l.ranges l.places)
