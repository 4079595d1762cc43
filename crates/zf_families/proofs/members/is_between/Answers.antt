use Rattle.zf_families.proofs.Prelude.{iff_false, IsBetween, members}
use Rattle.zf_families.proofs.Tested.{never, between_more, not_between}
use Rattle.zf_families.proofs.members.is_between.Goals as goal

pub returns-then-not-is_pair_from : goal.returns-then-not-is_pair_from
returns-then-not-is_pair_from c =
    never (IsBetween (members c.args.a.now) (members c.args.b.now) c.args.r.now)
    (not_between (members c.args.a.now) (members c.args.b.now) c.args.r.now c.loop-z.z-index c.z-item.result c.loop-z-test.true c.z-item.is
    (iff_false c.is_pair_from.ensures c.if-not-is_pair_from.true))

pub loop-z-preserved : goal.loop-z-preserved
loop-z-preserved c = between_more (members c.args.a.now) (members c.args.b.now) c.args.r.now c.loop-z.z-index c.z-item.result c.loop-z-test.true c.z-item.is
    (c.is_pair_from.ensures.0 c.if-not-is_pair_from.false) c.loop-z.invariant
