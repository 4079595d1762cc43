use Rattle.zf_calculus.proofs.Prelude.{◌↔◌, map, AllByRecursion, conjunct_of, IsLow}
use Rattle.zf_calculus.proofs.room.none_too_high.Given as goal

abbrev pub invariant-loop-conjunct : goal.invariant-loop-conjunct
invariant-loop-conjunct l = AllByRecursion IsLow (map conjunct_of l.conjunct-iterator) ↔ AllByRecursion IsLow (map conjunct_of l.conjuncts)
