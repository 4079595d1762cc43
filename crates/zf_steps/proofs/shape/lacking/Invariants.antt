-- What is still ahead decides.
use Rattle.zf_steps.proofs.Prelude.{drop, map, comp_of}
use Rattle.zf_steps.proofs.Shapes.{IsAhead}
use Rattle.zf_steps.proofs.shape.lacking.Given as goal

abbrev pub invariant-loop-component : goal.invariant-loop-component
invariant-loop-component l = IsAhead (map comp_of l.components) (map comp_of l.wanted) (map comp_of (drop l.component-index l.wanted))
