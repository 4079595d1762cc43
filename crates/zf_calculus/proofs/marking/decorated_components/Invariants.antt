use Rattle.zf_calculus.proofs.Prelude.{◌≡◌, map, take, comp_of}
use Rattle.zf_calculus.proofs.Decorating.{stroked}
use Rattle.zf_calculus.proofs.marking.decorated_components.Given as goal

abbrev pub invariant-loop-component : goal.invariant-loop-component
invariant-loop-component l = map comp_of l.made ≡ map (stroked l.strokes) (map comp_of (take l.component-index l.components))
