use Rattle.zf_meaning.proofs.RowValues.{copied-more, copied-row}
use Rattle.zf_meaning.proofs.evaluate.binders.value_of_row.Goals as goal

pub loop-value-preserved : goal.loop-value-preserved
loop-value-preserved c = copied-more c.args.values.now c.loop-value.value-index c.value-item.result c.in_ok-copy.field-0 _ _ c.loop-value-test.true
    c.value-item.is c.in_ok-copy.ensures c.loop-value.invariant c.in_ok-push.ensures.items

pub returns : goal.returns
returns c = copied-row c.args.values.now c.loop-value.value-index c.in_ok-of.field-0 c.loop-value.copies.items c.if-values-eq1.false c.loop-value-test.false c.loop-value.invariant c.in_ok-of.ensures
