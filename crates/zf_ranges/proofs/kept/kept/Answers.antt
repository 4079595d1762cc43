use Rattle.zf_ranges.proofs.Listing.{lists_begin, lists_step, lists_end}
use Rattle.zf_ranges.proofs.kept.kept.Goals as goal

pub loop-value-init : goal.loop-value-init
loop-value-init g c = lists_begin (g.T.Test.passes c.args.test.now) c.new-out.result.items c.new-out.ensures.items

pub loop-value-preserved : goal.loop-value-preserved
loop-value-preserved g c =
    lists_step (g.T.Test.passes c.args.test.now) c.args.values.now c.loop-value.value-index c.value-item.result c.loop-value.out.items _ c.requires.values
    c.value-item.is c.loop-value-test.true c.loop-value.invariant c.in_ok-keep.ensures

pub returns : goal.returns
returns g c = lists_end (g.T.Test.passes c.args.test.now) c.args.values.now c.loop-value.value-index c.loop-value.out.items c.loop-value-test.false c.loop-value.invariant
