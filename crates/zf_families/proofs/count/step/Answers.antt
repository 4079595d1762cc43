use Rattle.std.proofs.Common.{sym, ◌∙◌, arith}
use Rattle.zf_families.proofs.CutCounts.{step_end}
use Rattle.zf_families.proofs.count.step.Goals as goal

pub returns : goal.returns
returns c = sym (c.loop-used.invariant.1 ∙ step_end c.args.to c.loop-used.used c.loop-used.reached (omega (arith, c.loop-used.auto.reached, c.loop-used-test.false)))
