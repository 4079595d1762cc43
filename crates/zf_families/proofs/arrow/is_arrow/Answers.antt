use Rattle.zf_families.proofs.Prelude.{members}
use Rattle.zf_families.proofs.Belonging.{arrow_at, no_arrow}
use Rattle.zf_families.proofs.arrow.is_arrow.Goals as goal

pub returns-in-Some : goal.returns-in-Some
returns-in-Some c = arrow_at c.args.kind (members c.args.a.now) (members c.args.b.now) c.in-Some.r.now c.args.v.now c.are_of_kind.result c.in-Some.ensures.is
    c.in-Some.ensures.ascending c.are_of_kind.ensures

pub returns-in-None : goal.returns-in-None
returns-in-None c = no_arrow c.args.kind (members c.args.a.now) (members c.args.b.now) c.args.v.now c.in-None.ensures.none
