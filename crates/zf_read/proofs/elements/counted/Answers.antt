use Rattle.zf_read.proofs.SpelledTypes.{counted_by}
use Rattle.zf_read.proofs.elements.counted.Goals as goal

pub returns-in-Some : goal.returns-in-Some
returns-in-Some c = counted_by c.place_of.result c.args.digits.now c.in-Some.number c.args.count c.place_of.ensures.small c.ranges.count.fits c.in-Some.ensures c.place_of.ensures.place
