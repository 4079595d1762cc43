use Rattle.law_total.proofs.Terms.{some_outcome}
use Rattle.law_total.proofs.laws.every_outcome.Goals as goal

pub returns : goal.returns
returns c = some_outcome
