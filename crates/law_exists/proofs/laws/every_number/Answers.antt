use Rattle.law_exists.proofs.Searches.{some_tests_line, some_bound_of}
use Rattle.law_exists.proofs.laws.every_number.Goals as goal

pub returns-clause-tests : goal.returns-clause-tests
returns-clause-tests c = some_tests_line

pub returns-clause-bound : goal.returns-clause-bound
returns-clause-bound c = some_bound_of
