use Rattle.zf_checker.proofs.Prelude.{comp_of, component_line, both}
use Rattle.zf_checker.proofs.Lines.{next_line}
use Rattle.zf_checker.proofs.listing.append_components.Goals as goal

pub loop-component-preserved : goal.loop-component-preserved
loop-component-preserved c =
    both _ _ _ _ _ c.loop-component.invariant c.in_ok-append_component.ensures
    (next_line component_line comp_of c.args.components.now c.loop-component.component-index c.component-item.result c.component-item.is c.loop-component-test.true)
