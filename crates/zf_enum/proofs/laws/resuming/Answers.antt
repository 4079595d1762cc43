use Rattle.zf_enum.proofs.EventLaws.{events_resume}
use Rattle.zf_enum.proofs.laws.resuming.Goals as goal

pub returns : goal.returns
returns c = events_resume
