use Rattle.zf_calculus.proofs.Prelude.{◌++◌, ◌≡◌, map, conjunct_of, moved, numbering}
use Rattle.zf_calculus.proofs.growing.take_numbered.Given as goal

abbrev pub invariant-loop-conjunct : goal.invariant-loop-conjunct
invariant-loop-conjunct l =
    map conjunct_of l.conjuncts ++ map (moved (numbering l.places)) (map conjunct_of l.conjunct-iterator)
    ≡ map conjunct_of l.initial.conjuncts ++ map (moved (numbering l.places)) (map conjunct_of l.further)
