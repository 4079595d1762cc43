use Rattle.std.proofs.Common.{append-nil, sym}
use Rattle.zf_meaning.proofs.Gathering.{repeat-more}
use Rattle.zf_meaning.proofs.evaluate.ranges.repeat.Goals as goal

pub loop-init : goal.loop-init
loop-init c = sym (append-nil _)

pub loop-preserved : goal.loop-preserved
loop-preserved c = repeat-more _ _ _ _ _ c.loop.invariant c.in_ok-push.ensures.items
