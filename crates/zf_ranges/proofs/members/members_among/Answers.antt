use Rattle.zf_outcome.proofs.Tests.{not_out}
use Rattle.zf_ranges.proofs.members.members_among.Goals as goal

pub kept-requires-clause-ready : goal.kept-requires-clause-ready
kept-requires-clause-ready c = not_out _ _ c.is_out.ensures.within c.if-is_out.false

pub returns-clause-is : goal.returns-clause-is
returns-clause-is c = (c.in_ok-kept.ensures, not_out _ _ c.is_out.ensures.within c.if-is_out.false)
