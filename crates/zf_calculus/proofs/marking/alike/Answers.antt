use Rattle.zf_calculus.proofs.Decorating.{left_decorated}
use Rattle.zf_calculus.proofs.marking.alike.Goals as goal

pub invariant_of-result : goal.invariant_of-result
invariant_of-result c = left_decorated c.requires.0 _ _ _ _ c.growing.invariant (rw (c.growing.view_is) c.requires.1)
