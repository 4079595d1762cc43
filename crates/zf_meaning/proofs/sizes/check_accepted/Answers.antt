use Rattle.zf_meaning.proofs.Prelude.{arith, err_from_is_err_and}
use Rattle.zf_meaning.proofs.Accepting.{AreAccepted-none, AreAccepted-more, refusal-at}
use Rattle.zf_meaning.proofs.sizes.check_accepted.Goals as goal

pub loop-i-init : goal.loop-i-init
loop-i-init c = AreAccepted-none c.args.sets.now

pub returns-in_err-check_size-clause-err : goal.returns-in_err-check_size-clause-err
returns-in_err-check_size-clause-err c =
    let p = err_from_is_err_and c.from_residual.result c.from_residual.ensures.1 in
    rw (p.1, p.2)
    (refusal-at c.args.sets.now c.args.sizes.now c.loop-i.i c.index-sizes-i.result c.in_err-check_size.field-0.0 (omega arith) c.index-sizes-i.is c.loop-i.invariant c.in_err-check_size.ensures.err)

pub loop-i-preserved : goal.loop-i-preserved
loop-i-preserved c =
    AreAccepted-more c.args.sets.now c.args.sizes.now c.loop-i.i c.index-sizes-i.result (omega arith) c.index-sizes-i.is c.loop-i.invariant c.in_ok-check_size.ensures.ok
