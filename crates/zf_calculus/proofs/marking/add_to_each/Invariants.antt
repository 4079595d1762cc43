use Rattle.zf_calculus.proofs.Prelude.{◌≡◌, map, comp_of}
use Rattle.zf_calculus.proofs.Decorating.{stroked, with_strokes_from}
use Rattle.zf_calculus.proofs.marking.add_to_each.Given as goal

abbrev pub invariant-loop-component : goal.invariant-loop-component
invariant-loop-component l = with_strokes_from l.strokes l.component-index l.components ≡ map (stroked l.strokes) (map comp_of l.initial.components)
