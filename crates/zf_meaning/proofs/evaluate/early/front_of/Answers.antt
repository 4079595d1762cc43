use Rattle.zf_meaning.proofs.Prelude.{arith, part_of, resolved_of}
use Rattle.zf_meaning.proofs.NeedsBelow.{need-below, part-below}
use Rattle.zf_meaning.proofs.evaluate.early.front_of.Goals as goal

pub returns-then-not-is_quantified : goal.returns-then-not-is_quantified
returns-then-not-is_quantified c =
    let body = need-below c.args.frame.whole (resolved_of c.args.body.now) in
    let part = part-below c.args.frame.whole (part_of c.args.constraint.now) in
    omega (arith, body, part)
