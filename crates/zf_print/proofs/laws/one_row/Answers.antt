use Rattle.zf_print.proofs.Prelude.{Lines}
use Rattle.zf_print.proofs.OneRow.{one_row}
use Rattle.zf_print.proofs.laws.one_row.Goals as goal

pub returns : goal.returns
returns c = λ ss e cs vs ws clear h g q. one_row Lines ss e clear cs vs ws h g q
