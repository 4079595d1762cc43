use Rattle.zf_messages.proofs.Told.{one_more}
use Rattle.zf_messages.proofs.details.add_unbounded.Goals as goal

pub returns : goal.returns
returns c = rw (c.in_ok-add_detail.ensures, one_more) at c.add_if_any.ensures
