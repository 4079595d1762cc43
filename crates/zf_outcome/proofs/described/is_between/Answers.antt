use Rattle.zf_value.proofs.Exactly.{same}
use Rattle.zf_outcome.proofs.Tests.{in-interval, same-interval}
use Rattle.zf_outcome.proofs.described.is_between.Goals as goal

pub returns : goal.returns
returns c =
    in-interval c.args.from c.args.to c.args.v.now c.is_in_interval.result c.requires
    (same-interval c.args.from c.args.to _ _ c.args.v.now c.is_in_interval.result (same c.args.from c.ranges.from) (same c.args.to c.ranges.to) c.is_in_interval.ensures)
