use Rattle.law_answered.proofs.Sought.{what_is_sought_is_told}
use Rattle.law_answered.proofs.sought_is_found.Goals as goal

pub returns : goal.returns
returns c = what_is_sought_is_told
