use Rattle.zf_why.proofs.Prelude.{◌++◌, ◌≡◌, drop, map, conjunct_of, moved, numbering}
use Rattle.zf_why.proofs.sides.push_moved.Given as goal

abbrev pub invariant-loop-conjunct : goal.invariant-loop-conjunct
invariant-loop-conjunct l =
    map conjunct_of l.placed ++ map (moved (numbering l.places)) (map conjunct_of (drop l.conjunct-index l.conjuncts))
    ≡ map conjunct_of l.initial.placed ++ map (moved (numbering l.places)) (map conjunct_of l.conjuncts)
