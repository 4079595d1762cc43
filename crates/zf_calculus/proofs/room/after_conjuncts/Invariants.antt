use Rattle.zf_calculus.proofs.Prelude.{◌+◌, ◌≡◌, map, sum_by, conjunct_of, nodes}
use Rattle.zf_calculus.proofs.room.after_conjuncts.Given as goal

abbrev pub invariant-loop-conjunct : goal.invariant-loop-conjunct
invariant-loop-conjunct l = l.left + sum_by nodes (map conjunct_of l.conjuncts) ≡ l.room + sum_by nodes (map conjunct_of l.conjunct-iterator)
