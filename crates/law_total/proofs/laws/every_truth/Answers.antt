use Rattle.law_total.proofs.Terms.{some_truth}
use Rattle.law_total.proofs.laws.every_truth.Goals as goal

pub returns : goal.returns
returns c = some_truth
