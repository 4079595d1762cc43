use Rattle.zf_calculus.proofs.Prelude.{◌≡◌, map, take, comp_of, either_comp, with_comps}
use Rattle.zf_calculus.proofs.disjunction.either_all.Given as goal

abbrev pub invariant-loop-component : goal.invariant-loop-component
invariant-loop-component l = map comp_of l.made ≡ map (either_comp (map comp_of l.left) (map comp_of l.right)) (with_comps (map comp_of l.left) (map comp_of (take l.component-index l.right)))
