use Rattle.zf_meaning.proofs.Early.{conjunct-part}
use Rattle.zf_meaning.proofs.evaluate.early.+add_conjuncts.Goals as goal

pub returns-in-Some : goal.returns-in-Some
returns-in-Some t c = λ whole p h. c.add_conjuncts.ensures whole (conjunct-part whole c.args.term.now c.in-Some.inner.now c.in-Some.ensures.falsifies c.in-Some.ensures.smaller p) h

pub returns-in_ok-add_conjuncts-in-Some-sides_of : goal.returns-in_ok-add_conjuncts-in-Some-sides_of
returns-in_ok-add_conjuncts-in-Some-sides_of t c =
    λ whole p h.
    let i = c.in-Some-sides_of in
    c.add_conjuncts-in-Some-sides_of-2.ensures whole (conjunct-part whole c.args.term.now i.right.now i.ensures.right i.ensures.smaller_right p)
    (c.in_ok-add_conjuncts-in-Some-sides_of.ensures whole (conjunct-part whole c.args.term.now i.left.now i.ensures.left i.ensures.smaller_left p) h)
