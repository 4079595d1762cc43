use Rattle.zf_meaning.proofs.Numeric.{number-in}
use Rattle.zf_meaning.proofs.evaluate.numeric.number_in.Goals as goal

pub returns-in-Is : goal.returns-in-Is
returns-in-Is c = number-in c.in-Is.value c.args.outcome.now c.number.result c.in-Is.is c.number.ensures
