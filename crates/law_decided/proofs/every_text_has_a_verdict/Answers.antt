use Rattle.law_decided.proofs.Items.{text_has_verdict}
use Rattle.law_decided.proofs.every_text_has_a_verdict.Goals as goal

pub returns : goal.returns
returns c = text_has_verdict
