use Rattle.law_exists.proofs.Ranges.{first_out_or_none}
use Rattle.law_exists.proofs.laws.out_decided.Goals as goal

pub returns : goal.returns
returns c = first_out_or_none
