-- None so far.
use Rattle.zf_steps.proofs.Prelude.{◌≡◌, drop, map, comp_of, names_any}
use Rattle.zf_steps.proofs.shape.names_any.Given as goal

abbrev pub invariant-loop-component : goal.invariant-loop-component
invariant-loop-component l =
    names_any (map comp_of l.components) (map comp_of (drop l.component-index l.wanted)) ≡ names_any (map comp_of l.components) (map comp_of l.wanted)
