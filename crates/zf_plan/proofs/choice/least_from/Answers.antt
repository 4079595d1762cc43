use Rattle.zf_plan.proofs.Narrowing.{least-skips}
use Rattle.std.proofs.Common.{arith}
use Rattle.zf_plan.proofs.choice.least_from.Goals as goal

pub returns-clause-skipped : goal.returns-clause-skipped
returns-clause-skipped c = least-skips c.args.places.now c.args.from c.loop-i.least (λ j h. c.loop-i.invariant.1 j (omega arith))
