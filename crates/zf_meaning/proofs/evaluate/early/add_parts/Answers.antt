use Rattle.zf_meaning.proofs.Early.{found-part}
use Rattle.zf_meaning.proofs.evaluate.early.add_parts.Goals as goal

pub returns : goal.returns
returns c =
    λ h.
    let d = c.args.term.now in
    c.add_part-3.ensures d (found-part d c.body_of.result c.body_of.ensures.refutes c.body_of.ensures.smaller)
    (c.in_ok-add_part-2.ensures d (found-part d c.constraint_of.result c.constraint_of.ensures.refutes c.constraint_of.ensures.smaller)
    (c.in_ok-add_part.ensures d (found-part d c.filter_of.result c.filter_of.ensures.refutes c.filter_of.ensures.smaller) h))
