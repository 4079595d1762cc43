use Rattle.zf_finite.proofs.FiniteSchemas as schemas
use Rattle.zf_finite.proofs.laws.finite_without_cause.Goals as goal

pub returns : goal.returns
returns c = schemas.finite_without_cause
