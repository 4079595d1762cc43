use Rattle.std.proofs.Common.{◌∙◌}
use Rattle.zf_resolved.proofs.Joining.{member_seen}
use Rattle.zf_resolved.proofs.conjunct.membership.Goals as goal

pub returns : goal.returns
returns c = member_seen c.span-first.result c.args.place c.args.set c.in_ok-left.left c.in_ok-new.field-0 c.span-first.ensures c.in_ok-left.ensures (c.in_ok-new.ensures ∙ c.in_ok-links.ensures)
