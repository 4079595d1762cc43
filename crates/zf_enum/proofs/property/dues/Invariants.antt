use Rattle.zf_enum.proofs.Prelude.{◌≡◌, map, take, resolved_of, due}
use Rattle.zf_enum.proofs.property.dues.Given as goal

abbrev pub invariant-loop-conjunct : goal.invariant-loop-conjunct
invariant-loop-conjunct l = l.dues.items ≡ map due (map resolved_of (take l.conjunct-index l.conjuncts))
