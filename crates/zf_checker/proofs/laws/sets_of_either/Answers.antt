use Rattle.zf_checker.proofs.Joined as schemas
use Rattle.zf_checker.proofs.laws.sets_of_either.Goals as goal

pub returns : goal.returns
returns c = schemas.sets_of_either
