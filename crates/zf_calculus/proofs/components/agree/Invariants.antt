use Rattle.zf_calculus.proofs.Prelude.{drop, map, comp_of, Agree}
use Rattle.zf_calculus.proofs.components.agree.Given as goal

abbrev pub invariant-loop-other : goal.invariant-loop-other
invariant-loop-other l = Agree (map comp_of l.components) (map comp_of (drop l.other-index l.others)) → Agree (map comp_of l.components) (map comp_of l.others)
