use Rattle.zf_checker.proofs.Decoration as schemas
use Rattle.zf_checker.proofs.laws.decoration_renames.Goals as goal

pub returns : goal.returns
returns c = schemas.decoration_renames
