use Rattle.zf_value.specs.{members}
use Rattle.zf_families.proofs.Tested.{pair_from_second, pair_from_first, pair_from_none}
use Rattle.zf_families.proofs.members.is_pair_from.Goals as goal

pub returns-then-is_member : goal.returns-then-is_member
returns-then-is_member c = pair_from_second (members c.args.a.now) (members c.args.b.now) c.in-Some.x.now c.in-Some.y.now c.args.z.now
    c.is_member-then-is_member.result c.in-Some.ensures.is (c.is_member.ensures.0 c.if-is_member.true) c.is_member-then-is_member.ensures

pub returns-else-is_member : goal.returns-else-is_member
returns-else-is_member c = pair_from_first (members c.args.a.now) (members c.args.b.now) c.in-Some.x.now c.in-Some.y.now c.args.z.now c.is_member.result
    c.in-Some.ensures.is c.is_member.ensures c.if-is_member.false

pub returns-in-None : goal.returns-in-None
returns-in-None c = pair_from_none (members c.args.a.now) (members c.args.b.now) c.args.z.now c.in-None.ensures.none
