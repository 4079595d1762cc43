use Rattle.zf_families.proofs.Tuples.{cross_out}
use Rattle.zf_families.proofs.cross.is_cross_out.Goals as goal

pub returns : goal.returns
returns c =
    let told = cross_out c.args.sets.now c.size.ensures.ascending c.size.result c.size.ensures.is in
    record { out = told.0; there = told.1 }
