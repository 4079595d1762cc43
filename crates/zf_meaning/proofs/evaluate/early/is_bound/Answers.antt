use Rattle.zf_meaning.proofs.Early.{bound-at, not-bound}
use Rattle.zf_meaning.proofs.evaluate.early.is_bound.Goals as goal

pub returns-then-place-bound : goal.returns-then-place-bound
returns-then-place-bound c = bound-at c.args.bound.now c.args.place c.index-bound-place.result c.args.value.now c.equals.result c.if-place-bound.true c.index-bound-place.is c.equals.ensures

pub returns-else-place-bound : goal.returns-else-place-bound
returns-else-place-bound c = not-bound c.args.bound.now c.args.place c.args.value.now c.if-place-bound.false
