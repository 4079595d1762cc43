-- The places so far.
use Rattle.zf_steps.proofs.Prelude.{◌≡◌, filter_map, map, take, comp_of, place_of}
use Rattle.zf_steps.proofs.shape.places_of.Given as goal

abbrev pub invariant-loop-component : goal.invariant-loop-component
invariant-loop-component l = l.places.items ≡ filter_map (λ c. place_of (map comp_of l.components) (comp_of c).name) (take l.component-index l.wanted)
