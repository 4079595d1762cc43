use Rattle.zf_format.proofs.OneString.{one_string}
use Rattle.zf_format.proofs.laws.one_string.Goals as goal

pub returns : goal.returns
returns c = one_string
