-- The sources so far.
use Rattle.zf_steps.proofs.Prelude.{◌≡◌, map, take, comp_of, place_of}
use Rattle.zf_steps.proofs.shape.sources_of.Given as goal

abbrev pub invariant-loop-component : goal.invariant-loop-component
invariant-loop-component l = l.sources.items ≡ map (λ c. place_of (map comp_of l.state) (comp_of c).name) (take l.component-index l.components)
