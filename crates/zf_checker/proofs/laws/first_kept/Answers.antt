use Rattle.zf_checker.proofs.FirstComponents as schemas
use Rattle.zf_checker.proofs.laws.first_kept.Goals as goal

pub returns : goal.returns
returns c = schemas.first_kept
