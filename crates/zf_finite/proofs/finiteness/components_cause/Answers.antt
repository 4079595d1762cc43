use Rattle.zf_finite.proofs.Prelude.{None, Some, sym, comp_of, globals_of, comp_causes}
use Rattle.zf_finite.proofs.FirstCauses.{flat_step}
use Rattle.zf_finite.proofs.finiteness.components_cause.Goals as goal

pub returns-in-Some : goal.returns-in-Some
returns-in-Some c =
    sym (flat_step (comp_causes c.args.numbers (globals_of c.args.globals.now)) comp_of _ _ _ _ None
    (Some c.in-Some.cause) c.component-item.is c.loop-component-test.true c.loop-component.invariant c.in-Some.ensures)

pub loop-component-preserved : goal.loop-component-preserved
loop-component-preserved c =
    flat_step (comp_causes c.args.numbers (globals_of c.args.globals.now)) comp_of _ _ _ _ None None c.component-item.is c.loop-component-test.true c.loop-component.invariant c.in-None.ensures
