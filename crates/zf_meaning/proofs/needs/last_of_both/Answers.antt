use Rattle.zf_meaning.proofs.Prelude.{arith, part_of, resolved_of}
use Rattle.zf_meaning.proofs.NeedsBelow.{need-below, part-below}
use Rattle.zf_meaning.proofs.needs.last_of_both.Goals as goal

pub number_of-requires : goal.number_of-requires
number_of-requires c =
    let term = need-below c.args.bound (resolved_of c.args.term.now) in
    let part = part-below c.args.bound (part_of c.args.part.now) in
    omega (arith, term, part, c.last_of.ensures, c.last_of_part.ensures, c.ranges.bound.fits)
