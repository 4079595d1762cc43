use Rattle.law_exists.proofs.Turns.{some_result, some_sights}
use Rattle.law_exists.proofs.laws.every_sight.Goals as goal

pub returns-clause-sights : goal.returns-clause-sights
returns-clause-sights c = some_sights

pub returns-clause-results : goal.returns-clause-results
returns-clause-results c = some_result
