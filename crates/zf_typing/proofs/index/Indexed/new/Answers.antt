use Rattle.zf_typing.proofs.Indexed.{none_indexed}
use Rattle.zf_typing.proofs.index.Indexed.new.Goals as goal

pub invariant_of-result : goal.invariant_of-result
invariant_of-result c = rw (c.new.ensures.items, c.new-2.ensures.items) none_indexed
