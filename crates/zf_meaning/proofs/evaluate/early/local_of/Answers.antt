use Rattle.zf_meaning.proofs.Early.{variable-of}
use Rattle.zf_meaning.proofs.evaluate.early.local_of.Goals as goal

pub returns : goal.returns
returns c = variable-of c.args.term.now c.in-Name.field-0 c.in-Name.reference c.place_of.result c.in-Name.is c.place_of.ensures
