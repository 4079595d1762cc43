use Rattle.zf_why.proofs.Prelude.{◌++◌, ◌≡◌, drop, map, numbering}
use Rattle.zf_why.specs.{moved_side, side_in}
use Rattle.zf_why.proofs.sides.moved_sides.Given as goal

abbrev pub invariant-loop-side : goal.invariant-loop-side
invariant-loop-side l =
    map side_in l.placed ++ map (moved_side (numbering l.places)) (map side_in (drop l.side-index l.sides)) ≡ map (moved_side (numbering l.places)) (map side_in l.sides)
