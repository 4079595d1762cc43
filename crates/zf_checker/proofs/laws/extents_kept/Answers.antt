use Rattle.zf_checker.proofs.Extended as schemas
use Rattle.zf_checker.proofs.laws.extents_kept.Goals as goal

pub returns : goal.returns
returns c = schemas.extents_kept
