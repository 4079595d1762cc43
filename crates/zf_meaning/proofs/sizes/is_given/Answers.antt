use Rattle.zf_meaning.proofs.Prelude.{arith, false≢true, take_all, other_text}
use Rattle.zf_meaning.proofs.Accepting.{lacks-more}
use Rattle.zf_meaning.proofs.sizes.is_given.Goals as goal

pub loop-set-preserved : goal.loop-set-preserved
loop-set-preserved c =
    let differ = other_text c.set-item.result c.args.name.now (rw c.as_slice.ensures at c.if-eq.ensures) in
    lacks-more c.args.sets.now c.loop-set.set-index c.set-item.result c.args.name.now (omega arith) c.set-item.is c.loop-set.invariant differ

pub returns : goal.returns
returns c =
    let lacks = rw (take_all c.loop-set.set-index c.args.sets.now (omega arith)) at c.loop-set.invariant in
    (λ e. absurd (false≢true e), λ m. absurd (lacks m))
