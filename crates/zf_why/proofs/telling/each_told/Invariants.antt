use Rattle.zf_why.proofs.Prelude.{map, take, comp_of, conjunct_of, environment_of}
use Rattle.zf_why.specs.{AreEach, IsSide, side_in}
use Rattle.zf_why.proofs.telling.each_told.Given as goal

abbrev pub invariant-loop-disjunct : goal.invariant-loop-disjunct
invariant-loop-disjunct l =
    AreEach (IsSide (environment_of l.setting.env.now) (map comp_of l.setting.components.now) l.setting.held.now (map conjunct_of l.given))
    (map side_in (take l.disjunct-index l.disjuncts)) l.sides.items
