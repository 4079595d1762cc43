use Rattle.zf_value.proofs.Prelude.{take, IsGathered}
use Rattle.zf_value.proofs.Listed.{IsTurned}
use Rattle.zf_value.proofs.relation.inverse.Given as goal

abbrev pub invariant-loop-z : goal.invariant-loop-z
invariant-loop-z l = IsGathered IsTurned (take l.z-index l.z-items) l.values.items
