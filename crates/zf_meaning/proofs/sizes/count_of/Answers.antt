use Rattle.zf_meaning.proofs.Prelude.{arith, take_all, other_text}
use Rattle.zf_meaning.proofs.Accepting.{names-lack-more}
use Rattle.zf_meaning.proofs.sizes.count_of.Goals as goal

pub loop-size-preserved : goal.loop-size-preserved
loop-size-preserved c =
    let differ = other_text c.size-item.result.name c.args.name.now (rw c.as_slice.ensures at c.if-eq.ensures) in
    names-lack-more c.args.sizes.now c.loop-size.size-index c.size-item.result c.args.name.now (omega arith) c.size-item.is c.loop-size.invariant differ

pub returns : goal.returns
returns c = rw (take_all c.loop-size.size-index c.args.sizes.now (omega arith)) at c.loop-size.invariant
