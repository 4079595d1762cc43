use Rattle.zf_value.proofs.Making.{made_same}
use Rattle.zf_value.proofs.set.display.Goals as goal

pub returns : goal.returns
returns c = made_same _ _ _ c.in_ok-make_ascending.ensures.members c.set_of.ensures
