use Rattle.zf_messages.proofs.Told.{one_more}
use Rattle.zf_messages.proofs.details.add_clash.Goals as goal

pub returns : goal.returns
returns c = rw (c.in_ok-add_detail.ensures, one_more, c.as_slice.ensures) at c.add_types.ensures
