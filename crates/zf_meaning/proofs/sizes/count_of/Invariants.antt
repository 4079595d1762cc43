use Rattle.zf_meaning.proofs.Prelude.{take, Contains, names}
use Rattle.zf_meaning.proofs.sizes.count_of.Given as goal

abbrev pub invariant-loop-size : goal.invariant-loop-size
invariant-loop-size l = ¬ (Contains (names (take l.size-index l.sizes)) l.name)
