use Rattle.zf_calculus.proofs.Prelude.{map, rules, comp_of, Agrees}
use Rattle.zf_calculus.proofs.Counting.{all_at}
use Rattle.zf_calculus.proofs.Stopping.{weaker, one_clashes}
use Rattle.zf_calculus.proofs.components.agree.Goals as goal

pub loop-other-preserved : goal.loop-other-preserved
loop-other-preserved c rest =
    c.loop-other.invariant (all_at (Agrees (map comp_of c.args.components.now)) comp_of c.args.others.now c.loop-other.other-index c.other-item.result
    c.loop-other-test.true c.other-item.is c.in_ok-agrees.ensures.ok rest)

pub returns-in_err-agrees-clause-err : goal.returns-in_err-agrees-clause-err
returns-in_err-agrees-clause-err c =
    let fact = weaker _ _ _ (one_clashes (map comp_of c.args.components.now) c.args.others.now c.loop-other.other-index c.other-item.result
    c.loop-other-test.true c.other-item.is) c.in_err-agrees.ensures.err in
    search rules
