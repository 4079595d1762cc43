use Rattle.zf_value.proofs.Prelude.{take, members, AreAmong}
use Rattle.zf_value.proofs.set.are_among.Given as goal

abbrev pub invariant-loop-z : goal.invariant-loop-z
invariant-loop-z l = AreAmong (take l.z-index l.values) (members l.set)
