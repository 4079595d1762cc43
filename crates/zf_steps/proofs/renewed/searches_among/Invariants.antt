-- The searches so far.
use Rattle.zf_steps.proofs.Prelude.{map, take, AreFor, IsFor, operation_of, environment_of, schema_of}
use Rattle.zf_steps.proofs.renewed.searches_among.Given as goal

abbrev pub invariant-loop-operation : goal.invariant-loop-operation
invariant-loop-operation l = AreFor IsFor (environment_of l.env)
    (map (λ o. (operation_of schema_of o).schema) (take l.operation-index l.operations)) l.searches.items
