use Rattle.zf_meaning.proofs.Prelude.{Some}
use Rattle.zf_meaning.proofs.Early.{wanted-left, wanted-right}
use Rattle.zf_meaning.proofs.evaluate.early.wanted_by.Goals as goal

pub returns-in-None : goal.returns-in-None
returns-in-None c =
    let both = c.in-Some.ensures in
    wanted-left c.args.term.now c.in-Some.left.now c.in-Some.right.now c.args.frame c.wanted_of-in-None.result both.is both.smaller_left
    c.wanted_of-in-None.ensures.variable c.wanted_of-in-None.ensures.term c.wanted_of-in-None.ensures.earlier

pub returns-in-Some-wanted_of : goal.returns-in-Some-wanted_of
returns-in-Some-wanted_of c =
    let both = c.in-Some.ensures in
    let i = c.in-Some-wanted_of in
    wanted-right c.args.term.now c.in-Some.left.now c.in-Some.right.now c.args.frame (Some i.wanted) both.is both.smaller_right i.ensures.variable i.ensures.term i.ensures.earlier
