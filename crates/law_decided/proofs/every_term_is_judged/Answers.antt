use Rattle.law_decided.proofs.Terms.{judged}
use Rattle.law_decided.proofs.every_term_is_judged.Goals as goal

pub returns : goal.returns
returns c = judged
