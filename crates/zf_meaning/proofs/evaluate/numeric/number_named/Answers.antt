use Rattle.zf_meaning.proofs.Numeric.{number-is}
use Rattle.zf_meaning.proofs.evaluate.numeric.number_named.Goals as goal

pub returns : goal.returns
returns g c = number-is c.in_ok-value_named.field-0.now _ c.number.result c.in_ok-value_named.ensures c.number.ensures
