-- One more search.
use Rattle.zf_steps.proofs.Prelude.{◌+◌, map, subst, sym, take, AreFor, CanSearch, IsFor, operation_of, environment_of, schema_of}
use Rattle.zf_steps.proofs.Fitting.{for_item}
use Rattle.zf_steps.proofs.renewed.searches_among.Goals as goal

pub loop-operation-preserved : goal.loop-operation-preserved
loop-operation-preserved c =
    let e = environment_of c.args.env.now in
    subst (AreFor IsFor e (map (λ o. (operation_of schema_of o).schema) (take (c.loop-operation.operation-index + 1) c.args.operations.now)))
    (sym c.in_ok-push.ensures.items)
    (for_item IsFor e (λ o. (operation_of schema_of o).schema) (CanSearch e) c.args.operations.now c.loop-operation.operation-index _ c.operation-item.result
    c.loop-operation.searches.items c.new.result
    c.operation-item.is c.loop-operation-test.true c.requires c.loop-operation.invariant c.new.ensures)
