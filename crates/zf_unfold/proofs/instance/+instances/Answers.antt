use Rattle.zf_unfold.proofs.Prelude.{arith, part_of, resolved_of, ranges_of}
use Rattle.zf_unfold.proofs.Written.{instances_seen}
use Rattle.zf_unfold.proofs.instance.+instances.Goals as goal

pub returns : goal.returns
returns t c =
    let of = c.args.of.now in
    instances_seen c.args.count c.args.member c.args.more c.in-Some.fewer of.span (ranges_of of) (part_of of.constraint.now) (resolved_of of.body.now)
    c.in_ok-part.part c.in_ok-left.left c.in_ok-others.others c.in_ok-right.right (omega (arith, c.in-Some.ensures))
    c.in_ok-part.ensures c.in_ok-left.ensures c.in_ok-others.ensures c.in_ok-right.ensures
