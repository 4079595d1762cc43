use Rattle.std.proofs.Common.{◌∙◌, arith}
use Rattle.zf_scan.proofs.Numbers.{too_large, one_more, all_read}
use Rattle.zf_scan.proofs.inside.value_of.Goals as goal

pub returns-then-n-digit : goal.returns-then-n-digit
returns-then-n-digit c = too_large c.args.digits.now c.loop-b.b-index c.loop-b.n c.from-digit.result c.loop-b.invariant.0 c.loop-b-test.true
    (c.from-digit.ensures ∙ c.saturating_sub.ensures) c.if-n-digit.true

pub loop-b-preserved : goal.loop-b-preserved
loop-b-preserved c = one_more c.args.digits.now c.loop-b.b-index c.loop-b.n c.from-digit.result c.loop-b.invariant.0 c.loop-b-test.true
    (c.from-digit.ensures ∙ c.saturating_sub.ensures) (omega (arith, c.saturating_sub.type_inv, c.from-digit.ensures)) c.if-n-digit.false

pub returns : goal.returns
returns c = all_read c.args.digits.now c.loop-b.b-index c.loop-b.n c.loop-b.invariant.0 c.loop-b-test.false c.loop-b.invariant.1
