use Rattle.zf_meaning.proofs.Prelude.{arith, resolved_of}
use Rattle.zf_meaning.proofs.NeedsBelow.{need-below}
use Rattle.zf_meaning.proofs.needs.last_local.Goals as goal

pub number_of-requires : goal.number_of-requires
number_of-requires c = omega (arith, need-below c.args.bound (resolved_of c.args.term.now), c.last_of.ensures, c.ranges.bound.fits)
