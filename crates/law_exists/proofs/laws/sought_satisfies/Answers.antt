use Rattle.law_exists.proofs.Turns.{other_has_none}
use Rattle.law_exists.proofs.laws.sought_satisfies.Goals as goal
use Rattle.zf_steps.proofs.Satisfying.{sought_satisfies}

pub returns-clause-sought : goal.returns-clause-sought
returns-clause-sought c = λ m state name a values test. sought_satisfies m state name a test values

pub returns-clause-other : goal.returns-clause-other
returns-clause-other c = other_has_none
