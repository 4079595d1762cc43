use Rattle.zf_value.proofs.Prelude.{take, members, IsGathered}
use Rattle.zf_value.proofs.Compositions.{Composes}
use Rattle.zf_value.proofs.relation.composition.Given as goal

abbrev pub invariant-loop-z : goal.invariant-loop-z
invariant-loop-z l = IsGathered (Composes (members l.q)) (take l.z-index l.z-items) l.values.items
