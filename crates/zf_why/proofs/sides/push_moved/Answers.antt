use Rattle.zf_why.proofs.Prelude.{conjunct_of, moved, numbering}
use Rattle.zf_why.proofs.Gathered.{one_pushed}
use Rattle.zf_why.proofs.sides.push_moved.Goals as goal

pub loop-conjunct-preserved : goal.loop-conjunct-preserved
loop-conjunct-preserved c =
    one_pushed (moved (numbering c.args.places.now)) conjunct_of c.args.conjuncts.now c.loop-conjunct.conjunct-index c.conjunct-item.result
    c.in_ok-own.own _ _ _ c.conjunct-item.is c.loop-conjunct-test.true c.in_ok-own.ensures c.in_ok-push.ensures.ok c.loop-conjunct.invariant
