use Rattle.zf_value.specs.{members}
use Rattle.zf_families.proofs.Belonging.{subset_at, no_subset}
use Rattle.zf_families.proofs.power.is_in_power.Goals as goal

pub returns-in-Some : goal.returns-in-Some
returns-in-Some c = subset_at (members c.args.a.now) c.in-Some.xs.now c.args.v.now c.are_among.result c.in-Some.ensures.is c.in-Some.ensures.ascending c.are_among.ensures

pub returns-in-None : goal.returns-in-None
returns-in-None c = no_subset (members c.args.a.now) c.args.v.now c.in-None.ensures.none
