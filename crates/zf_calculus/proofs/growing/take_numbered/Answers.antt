use Rattle.zf_calculus.proofs.Prelude.{numbering}
use Rattle.zf_calculus.proofs.Renumbering.{taken_step}
use Rattle.zf_calculus.proofs.growing.take_numbered.Goals as goal

pub loop-conjunct-preserved : goal.loop-conjunct-preserved
loop-conjunct-preserved c =
    taken_step (numbering c.args.places.now) c.loop-conjunct.conjuncts c.push_moved.new.conjuncts c.loop-conjunct.conjunct-iterator c.next.new.self
    c.in-Some.conjunct.now _ c.in-Some.ensures.steps c.in_ok-push_moved.ensures c.loop-conjunct.invariant
