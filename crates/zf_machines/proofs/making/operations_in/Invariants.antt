-- The operations so far.
use Rattle.zf_machines.proofs.Prelude.{◌≡◌, map, take, named_of, before_of, operation_in, operation_of, schema_of}
use Rattle.zf_machines.proofs.making.operations_in.Given as goal

abbrev pub invariant-loop-operation : goal.invariant-loop-operation
invariant-loop-operation l =
    map (operation_of schema_of) l.operations.items ≡ map (λ o. operation_in (before_of l.states) (named_of o).name (named_of o).schema) (take l.operation-index l.schemas)
