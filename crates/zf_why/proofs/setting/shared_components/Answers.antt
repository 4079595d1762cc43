use Rattle.zf_why.proofs.Prelude.{◌∙◌}
use Rattle.zf_why.proofs.Lists.{one_more, all_taken}
use Rattle.zf_why.proofs.setting.shared_components.Goals as goal

pub loop-component-preserved : goal.loop-component-preserved
loop-component-preserved c =
    c.in_ok-push.ensures.ok
    ∙ one_more c.args.components.now c.loop-component.same c.loop-component.component-index c.component-item.result _ c.component-item.is c.in_ok-share.ensures
    c.loop-component-test.true c.loop-component.invariant

pub returns : goal.returns
returns c = all_taken c.args.components.now c.loop-component.same c.loop-component.component-index c.loop-component-test.false c.loop-component.invariant
