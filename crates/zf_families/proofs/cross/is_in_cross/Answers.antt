use Rattle.zf_families.proofs.Tuples.{tuple_at, no_tuple}
use Rattle.zf_families.proofs.cross.is_in_cross.Goals as goal

pub returns-in-Some : goal.returns-in-Some
returns-in-Some c = tuple_at c.args.sets.now c.in-Some.parts.now c.args.v.now c.are_from.result c.in-Some.ensures.is c.are_from.ensures

pub returns-in-None : goal.returns-in-None
returns-in-None c = no_tuple c.args.sets.now c.args.v.now c.in-None.ensures.none
