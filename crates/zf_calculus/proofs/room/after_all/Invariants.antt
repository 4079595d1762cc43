use Rattle.zf_calculus.proofs.Prelude.{◌+◌, ◌≡◌, drop, map, comp_of, counted, measured}
use Rattle.zf_calculus.proofs.room.after_all.Given as goal

abbrev pub invariant-loop-component : goal.invariant-loop-component
invariant-loop-component l =
    l.left + counted (measured l.measure) (map comp_of l.components) ≡ l.room + counted (measured l.measure) (map comp_of (drop l.component-index l.components))
