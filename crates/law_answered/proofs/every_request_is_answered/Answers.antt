use Rattle.law_answered.proofs.EveryAnswer.{every_request_is_answered}
use Rattle.law_answered.proofs.every_request_is_answered.Goals as goal

pub returns : goal.returns
returns c = every_request_is_answered c.every_source_is_read.ensures
