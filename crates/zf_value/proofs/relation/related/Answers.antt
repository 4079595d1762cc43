use Rattle.std.proofs.Common.{rules}
use Rattle.zf_value.proofs.relation.related.Goals as goal

pub returns : goal.returns
returns c = rw (← c.members-pairs.ensures.is) (search rules)
