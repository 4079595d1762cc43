use Rattle.zf_checker.proofs.Joined as schemas
use Rattle.zf_checker.proofs.laws.places_carried.Goals as goal

pub returns : goal.returns
returns c = schemas.places_carried
