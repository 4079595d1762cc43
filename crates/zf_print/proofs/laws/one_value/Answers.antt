use Rattle.zf_print.proofs.Prelude.{Lines, [], ◌++◌, ap}
use Rattle.zf_print.proofs.OneFront.{ends_as, one_front}
use Rattle.zf_print.proofs.laws.one_value.Goals as goal

pub returns : goal.returns
returns c = λ ss e t v w clear h g q. (one_front Lines ss e clear t v w [] [] h g (ends_as t [] tt) (ends_as t [] tt) (ap (λ l. l ++ []) q)).0
