use Rattle.std.proofs.Common.{refl, arith}
use Rattle.zf_scan.proofs.Fronts.{one_more, all_same, one_differs}
use Rattle.zf_scan.proofs.pieces.begins.Goals as goal

pub loop-i-init : goal.loop-i-init
loop-i-init c = refl

pub returns-then-bytes-i-clause-value : goal.returns-then-bytes-i-clause-value
returns-then-bytes-i-clause-value c = one_differs c.args.bytes.now c.args.front.now c.loop-i.i c.loop-i-test.true c.if-bytes-i.true

pub loop-i-preserved : goal.loop-i-preserved
loop-i-preserved c = one_more c.args.bytes.now c.args.front.now c.loop-i.i (omega (arith, c.loop-i-test.true, c.if-bytes-front.false)) c.loop-i-test.true c.loop-i.invariant c.if-bytes-i.false

pub returns-clause-value : goal.returns-clause-value
returns-clause-value c = all_same c.args.bytes.now c.args.front.now c.loop-i.i (omega (arith, c.loop-i-test.false, c.loop-i.auto.i-end)) c.loop-i.invariant
