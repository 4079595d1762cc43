-- The components so far have one more stroke.
use Rattle.zf_steps.proofs.Prelude.{◌≡◌, map, take, comp_of, stroked}
use Rattle.zf_steps.proofs.shape.with_strokes.Given as goal

abbrev pub invariant-loop-component : goal.invariant-loop-component
invariant-loop-component l = map comp_of l.stroked ≡ map (λ c. stroked (comp_of c)) (take l.component-index l.components)
