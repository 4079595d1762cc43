use Rattle.zf_machines.proofs.Prelude.{List, map, refl, ℕ, CanStep, named_of, before_of}
use Rattle.zf_machines.proofs.Firsts.{all_passed, at_first, failed, mapped_ahead, mapped_end, passed}
use Rattle.zf_machines.proofs.Lacking.{LacksIt}
use Rattle.zf_machines.proofs.shape.step_lack.Goals as goal

pub loop-operation-init : goal.loop-operation-init
loop-operation-init c = at_first (CanStep (before_of c.args.states)) (LacksIt (before_of c.args.states)) (map named_of c.args.operations.now)

pub loop-operation-preserved : goal.loop-operation-preserved
loop-operation-preserved c =
    let state = before_of c.args.states in
    let xs = c.args.operations.now in
    passed (CanStep state) (LacksIt state) (map named_of xs) _ _ _ (mapped_ahead named_of xs c.loop-operation.operation-index c.operation-item.result
    c.operation-item.is c.loop-operation-test.true) c.loop-operation.invariant
    c.in_default.ensures

pub returns-in-Some : goal.returns-in-Some
returns-in-Some c =
    let state = before_of c.args.states in
    let xs = c.args.operations.now in
    let names : List ℕ × List ℕ = (c.operation-item.result.name.now, c.in-Some.component.now) in
    failed (CanStep state) (LacksIt state) (map named_of xs) _ _ _ (mapped_ahead named_of xs c.loop-operation.operation-index c.operation-item.result
    c.operation-item.is c.loop-operation-test.true) c.loop-operation.invariant
    names (refl, c.in-Some.ensures)

pub returns : goal.returns
returns c =
    let state = before_of c.args.states in
    all_passed (CanStep state) (LacksIt state) (map named_of c.args.operations.now) _
    (mapped_end named_of c.args.operations.now c.loop-operation.operation-index c.loop-operation-test.false) c.loop-operation.invariant
