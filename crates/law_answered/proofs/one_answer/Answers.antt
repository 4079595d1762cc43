use Rattle.law_answered.proofs.FaultMessages.{plain_messages}
use Rattle.law_answered.proofs.OneAnswer.{one_status, one_text}
use Rattle.law_answered.proofs.one_answer.Goals as goal

pub returns : goal.returns
returns c = record { status = one_status; text = one_text; plain = plain_messages }
