use Rattle.zf_term.proofs.Injective as types
use Rattle.zf_term.proofs.ztype.one_type.Goals as goal

pub returns : goal.returns
returns c = types.one_type
