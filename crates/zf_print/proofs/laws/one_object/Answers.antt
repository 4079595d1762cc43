use Rattle.zf_print.proofs.Prelude.{Objects}
use Rattle.zf_print.proofs.OneRow.{one_row}
use Rattle.zf_print.proofs.laws.one_object.Goals as goal

pub returns : goal.returns
returns c = λ ss e cs vs ws clear h g q. one_row Objects ss e clear cs vs ws h g q
