use Rattle.zf_why.proofs.Decided.{found}
use Rattle.zf_why.proofs.setting.has_event.Goals as goal

pub returns-in-Ok : goal.returns-in-Ok
returns-in-Ok c = found _ _ _ _ _ _ c.in-Ok.ensures.begins c.finds.ensures
