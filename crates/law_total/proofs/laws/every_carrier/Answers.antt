use Rattle.law_total.proofs.Carriers.{some_carrier}
use Rattle.law_total.proofs.laws.every_carrier.Goals as goal

pub returns : goal.returns
returns c = some_carrier
