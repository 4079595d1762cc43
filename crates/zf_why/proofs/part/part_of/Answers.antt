use Rattle.zf_why.proofs.Showing.{no_chain}
use Rattle.zf_why.proofs.part.part_of.Goals as goal

pub returns-in_default : goal.returns-in_default
returns-in_default c = no_chain c.args.term.now c.span.result c.in_default.not-Chain c.span.ensures
