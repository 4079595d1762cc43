use Rattle.zf_value.proofs.Exactly.{same, wide}
use Rattle.zf_value.proofs.Intervals.{interval_out, interval_made, lists_same}
use Rattle.zf_value.proofs.number.interval.Goals as goal

pub returns-then-is_too_wide : goal.returns-then-is_too_wide
returns-then-is_too_wide c = interval_out c.args.from c.args.to (wide c.args.from c.args.to _ _ (same _ c.ranges.from) (same _ c.ranges.to) (c.is_too_wide.ensures.0 c.if-is_too_wide.true))

pub set_of-requires : goal.set_of-requires
set_of-requires c = c.in_ok-members.ensures.ascending

pub returns : goal.returns
returns c = interval_made c.args.from c.args.to c.in_ok-members.members _ (lists_same _ _ _ _ _ (same c.args.from c.ranges.from) (same c.args.to c.ranges.to) c.in_ok-members.ensures) c.set_of.ensures
