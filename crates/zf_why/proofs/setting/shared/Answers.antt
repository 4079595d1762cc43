use Rattle.zf_why.proofs.Prelude.{◌∙◌}
use Rattle.zf_why.proofs.Lists.{one_more, all_taken}
use Rattle.zf_why.proofs.setting.shared.Goals as goal

pub loop-conjunct-preserved : goal.loop-conjunct-preserved
loop-conjunct-preserved c =
    c.in_ok-push.ensures.ok
    ∙ one_more c.args.conjuncts.now c.loop-conjunct.same c.loop-conjunct.conjunct-index c.conjunct-item.result _ c.conjunct-item.is c.in_ok-share.ensures
    c.loop-conjunct-test.true c.loop-conjunct.invariant

pub returns : goal.returns
returns c = all_taken c.args.conjuncts.now c.loop-conjunct.same c.loop-conjunct.conjunct-index c.loop-conjunct-test.false c.loop-conjunct.invariant
