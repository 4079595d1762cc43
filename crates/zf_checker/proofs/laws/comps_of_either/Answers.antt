use Rattle.zf_checker.proofs.FirstComponents as schemas
use Rattle.zf_checker.proofs.laws.comps_of_either.Goals as goal

pub returns : goal.returns
returns c = schemas.comps_of_either
