use Rattle.zf_enum.proofs.Prelude.{map, resolved_of, AreSpreads}
use Rattle.zf_enum.proofs.spread.spreads.Given as goal

abbrev pub invariant-loop-conjunct : goal.invariant-loop-conjunct
invariant-loop-conjunct l = AreSpreads (map resolved_of l.conjuncts) l.found.items
