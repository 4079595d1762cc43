use Rattle.zf_meaning.proofs.Prelude.{take, Contains}
use Rattle.zf_meaning.proofs.sizes.is_given.Given as goal

abbrev pub invariant-loop-set : goal.invariant-loop-set
invariant-loop-set l = ¬ (Contains (take l.set-index l.sets) l.name)
