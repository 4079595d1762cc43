use Rattle.law_exists.proofs.Searches.{some_list, some_search}
use Rattle.law_exists.proofs.laws.every_search.Goals as goal

pub returns-clause-events : goal.returns-clause-events
returns-clause-events c = some_list

pub returns-clause-searches : goal.returns-clause-searches
returns-clause-searches c = some_search
