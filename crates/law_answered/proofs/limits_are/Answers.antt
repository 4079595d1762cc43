use Rattle.std.proofs.Common.{refl}
use Rattle.law_answered.proofs.SmallNumbers.{too_large_out}
use Rattle.law_answered.proofs.limits_are.Goals as goal

pub returns : goal.returns
returns c = ((refl, refl, refl, refl), (refl, too_large_out), (refl, refl), (refl, refl, refl, refl, refl, refl))
