use Rattle.law_answered.proofs.Mending as mending
use Rattle.law_answered.proofs.numbers_mend.Goals as goal

pub returns : goal.returns
returns c = mending.numbers_mend
