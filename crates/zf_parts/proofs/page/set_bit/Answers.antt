use Rattle.zf_parts.proofs.Prelude.{rules}
use Rattle.zf_parts.proofs.Marking.{bit_others, bit_there}
use Rattle.zf_parts.proofs.page.set_bit.Goals as goal

pub returns-clause-there : goal.returns-clause-there
returns-clause-there c = bit_there c.args.page.now.words c.args.number (search rules)

pub returns-clause-others : goal.returns-clause-others
returns-clause-others c = bit_others c.args.page.now.words c.args.number (search rules)
