use Rattle.std.proofs.lemmas.Bool.{iff_false}
use Rattle.zf_families.proofs.Tuples.{cross_built, tuples_ascend}
use Rattle.zf_families.proofs.cross.cross.Goals as goal

pub set_of_tuples-requires : goal.set_of_tuples-requires
set_of_tuples-requires c = tuples_ascend c.args.sets.now c.in_ok-rows.ensures.ascending c.in_ok-rows.rows.items c.in_ok-rows.ensures.is

pub returns : goal.returns
returns c = cross_built c.args.sets.now c.in_ok-rows.ensures.ascending (iff_false c.is_cross_out.ensures.out c.if-is_cross_out.false) c.in_ok-rows.rows.items
    c.in_ok-rows.ensures.is c.set_of_tuples.result c.set_of_tuples.ensures
