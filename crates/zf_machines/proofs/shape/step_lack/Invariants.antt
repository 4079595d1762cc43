-- What is still ahead decides.
use Rattle.zf_machines.proofs.Prelude.{drop, map, CanStep, named_of, before_of}
use Rattle.zf_machines.proofs.Firsts.{IsAhead}
use Rattle.zf_machines.proofs.Lacking.{LacksIt}
use Rattle.zf_machines.proofs.shape.step_lack.Given as goal

abbrev pub invariant-loop-operation : goal.invariant-loop-operation
invariant-loop-operation l = IsAhead (CanStep (before_of l.states)) (LacksIt (before_of l.states)) (map named_of l.operations) (map named_of (drop l.operation-index l.operations))
