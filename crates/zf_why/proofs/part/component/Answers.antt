use Rattle.zf_why.proofs.Showing.{no_name}
use Rattle.zf_why.proofs.part.component.Goals as goal

pub returns-in_default : goal.returns-in_default
returns-in_default c = no_name c.args.term.now c.in_default.not-Name
