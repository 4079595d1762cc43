use Rattle.zf_families.proofs.Prelude.{take, IsBetween, members}
use Rattle.zf_families.proofs.members.is_between.Given as goal

abbrev pub invariant-loop-z : goal.invariant-loop-z
invariant-loop-z l = IsBetween (members l.a) (members l.b) (take l.z-index l.r)
