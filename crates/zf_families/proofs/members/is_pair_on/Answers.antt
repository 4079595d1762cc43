use Rattle.zf_value.specs.{members}
use Rattle.zf_families.proofs.Tested.{pair_on_second, pair_on_first, pair_on_none}
use Rattle.zf_families.proofs.members.is_pair_on.Goals as goal

pub returns-then-equals : goal.returns-then-equals
returns-then-equals c = pair_on_second c.args.x.now (members c.args.b.now) c.in-Some.u.now c.in-Some.y.now c.args.z.now c.is_member.result c.in-Some.ensures.is
    (c.equals.ensures.0 c.if-equals.true) c.is_member.ensures

pub returns-else-equals : goal.returns-else-equals
returns-else-equals c = pair_on_first c.args.x.now (members c.args.b.now) c.in-Some.u.now c.in-Some.y.now c.args.z.now c.equals.result c.in-Some.ensures.is c.equals.ensures c.if-equals.false

pub returns-in-None : goal.returns-in-None
returns-in-None c = pair_on_none c.args.x.now (members c.args.b.now) c.args.z.now c.in-None.ensures.none
