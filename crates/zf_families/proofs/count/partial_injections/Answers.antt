use Rattle.zf_families.proofs.CutCounts.{many_injections, counts_stepped}
use Rattle.zf_families.proofs.count.partial_injections.Goals as goal

pub returns-then-to-ge-REACH : goal.returns-then-to-ge-REACH
returns-then-to-ge-REACH c = many_injections c.args.from c.args.to c.if-from-ge-REACH.true c.if-to-ge-REACH.true

pub loop-turn-preserved : goal.loop-turn-preserved
loop-turn-preserved c = counts_stepped c.loop-turn._turn c.args.to c.loop-turn.reached c.step.new.reached c.step.ensures c.loop-turn.invariant
