use Rattle.law_total.proofs.Environments.{some_environment}
use Rattle.law_total.proofs.laws.every_environment.Goals as goal

pub returns : goal.returns
returns c = some_environment
