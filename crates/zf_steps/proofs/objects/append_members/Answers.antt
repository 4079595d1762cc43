-- The members of a step.
use Rattle.zf_steps.proofs.Prelude.{◌++◌, ◌≡◌, OnOk, Some, subst, sym, slice_get, at_map, operation_of, step_members, system_of}
use Rattle.zf_steps.proofs.Fitting.{stands_at}
use Rattle.zf_steps.proofs.objects.append_members.Goals as goal

pub returns-in-Some : goal.returns-in-Some
returns-in-Some g c =
    let there = stands_at c.deref.result.now c.args.label.now.operation c.in-Some.operation.now c.in-Some.ensures.lookup.3.0 c.in-Some.ensures.lookup.1 in
    let at = at_map (operation_of g.F.Schematic.schema) c.args.system.now.operations.items c.args.label.now.operation c.in-Some.operation.now
    (subst (λ os. slice_get os c.args.label.now.operation ≡ Some c.in-Some.operation.now) c.deref.ensures.value there) in
    subst (λ o. OnOk c.append_named_members.result (c.append_named_members.new.line.items ≡ c.args.line.now.items ++ step_members
    (system_of g.E.Surrounding.environment g.F.Schematic.schema c.args.system.now) o c.args.number c.args.label.now.values)) (sym at)
    (subst (λ vs. OnOk c.append_named_members.result (c.append_named_members.new.line.items ≡ c.args.line.now.items ++ step_members
    (system_of g.E.Surrounding.environment g.F.Schematic.schema c.args.system.now)
    (Some (operation_of g.F.Schematic.schema c.in-Some.operation.now)) c.args.number vs))
    c.as_slice.ensures c.append_named_members.ensures)
