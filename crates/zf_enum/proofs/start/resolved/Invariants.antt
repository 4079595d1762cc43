use Rattle.zf_enum.proofs.Prelude.{◌≡◌, map, take, conjunct_of, resolved_of}
use Rattle.zf_enum.proofs.start.resolved.Given as goal

abbrev pub invariant-loop-conjunct : goal.invariant-loop-conjunct
invariant-loop-conjunct l = map resolved_of l.terms.items ≡ map conjunct_of (take l.conjunct-index l.conjuncts)
