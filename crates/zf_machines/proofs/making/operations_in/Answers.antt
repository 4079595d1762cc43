use Rattle.zf_machines.proofs.Prelude.{◌+◌, ◌∙◌, ◌≡◌, ap, map, subst, sym, take, take_all, named_of, before_of, operation_in, operation_of, schema_of}
use Rattle.zf_machines.specs.declared.schemas.Named.{Named}
use Rattle.zf_steps.proofs.Shapes.{mapped_push}
use Rattle.zf_machines.proofs.making.operations_in.Goals as goal

pub loop-operation-preserved : goal.loop-operation-preserved
loop-operation-preserved c =
    let xs = c.args.schemas.now in
    let i = c.loop-operation.operation-index in
    let make = λ (o : Named). operation_in (before_of c.args.states) (named_of o).name (named_of o).schema in
    subst (λ ys. map (operation_of schema_of) ys ≡ map make (take (i + 1) xs)) (sym c.in_ok-push.ensures.items)
    (mapped_push (operation_of schema_of) make xs i c.operation-item.result c.loop-operation.operations.items c.in_ok-made.made c.operation-item.is
    c.loop-operation-test.true c.loop-operation.invariant c.in_ok-made.ensures)

pub returns : goal.returns
returns c =
    let make = λ (o : Named). operation_in (before_of c.args.states) (named_of o).name (named_of o).schema in
    c.loop-operation.invariant ∙ ap (map make) (take_all c.loop-operation.operation-index c.args.schemas.now c.loop-operation-test.false)
