use Rattle.zf_calculus.proofs.Prelude.{refl}
use Rattle.zf_term.specs.declared.fault.Limit.TheVariants as limit
use Rattle.zf_calculus.proofs.Monotony.{left_grown, sets_passed, nodes_passed}
use Rattle.zf_calculus.proofs.growing.Growing.left_behind.Goals as goal

pub returns-in_default-clause-err : goal.returns-in_default-clause-err
returns-in_default-clause-err c = rw (← c.self.view_is) (limit.Sets, refl, sets_passed _ _ _ _ c.self.invariant (rw c.get.ensures at c.in_default.ensures))

pub returns-in_default-after-clause-err : goal.returns-in_default-after-clause-err
returns-in_default-after-clause-err c =
    rw (← c.self.view_is) (limit.Nodes, refl, nodes_passed _ _ _ _ c.self.invariant (rw c.get-2.ensures at c.in_default-after.ensures))

pub returns-clause-ok : goal.returns-clause-ok
returns-clause-ok c =
    rw (← c.self.view_is) (left_grown _ _ _ _ _ _ c.self.invariant (rw c.get.ensures at c.in-Some.ensures) (rw c.get-2.ensures at c.in-Some-after.ensures))
