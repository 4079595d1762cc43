use Rattle.zf_print.proofs.Prelude.{Lines}
use Rattle.zf_print.proofs.OneFront.{ends_as, one_front}
use Rattle.zf_print.proofs.laws.one_end.Goals as goal

pub returns : goal.returns
returns c = λ ss e t v w r s clear h g a b q. one_front Lines ss e clear t v w r s h g (ends_as t r a) (ends_as t s b) q
