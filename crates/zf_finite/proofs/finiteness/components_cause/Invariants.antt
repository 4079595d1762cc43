use Rattle.zf_finite.proofs.Prelude.{◌≡◌, drop, flat_map, map, comp_of, globals_of, first, comp_causes}
use Rattle.zf_finite.proofs.finiteness.components_cause.Given as goal

abbrev pub invariant-loop-component : goal.invariant-loop-component
invariant-loop-component l =
    first (flat_map (comp_causes l.numbers (globals_of l.globals)) (map comp_of l.components))
    ≡ first (flat_map (comp_causes l.numbers (globals_of l.globals)) (map comp_of (drop l.component-index l.components)))
