use Rattle.law_answered.proofs.Shown.{reason_is_told}
use Rattle.law_answered.proofs.reason_is_told.Goals as goal

pub returns : goal.returns
returns c = reason_is_told
