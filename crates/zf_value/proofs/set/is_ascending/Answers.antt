use Rattle.std.proofs.Common.{sym, ◌∙◌, arith}
use Rattle.zf_value.proofs.Among.{adjacent_more, ascending_by_adjacent}
use Rattle.zf_value.proofs.set.is_ascending.Goals as goal

pub loop-place-init : goal.loop-place-init
loop-place-init c k d l = absurd (omega (arith, l))

pub loop-place-preserved : goal.loop-place-preserved
loop-place-preserved c =
    adjacent_more c.args.values.now c.loop-place.place c.index-values-place.result c.index-values-place-in-loop-place.result c.order.result
    c.loop-place.auto.place c.loop-place-test.true c.index-values-place.is c.index-values-place-in-loop-place.is c.order.ensures
    (sym c.is_lt.ensures ∙ c.if-not-is_lt.false) c.loop-place.invariant

pub returns : goal.returns
returns c e = ascending_by_adjacent c.args.values.now c.loop-place.place c.loop-place-test.false c.loop-place.invariant
