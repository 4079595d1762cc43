use Rattle.law_total.proofs.StatedSizes.{complete_or_refused}
use Rattle.law_total.proofs.laws.sizes_judged.Goals as goal

pub returns : goal.returns
returns c = complete_or_refused
