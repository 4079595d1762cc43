use Rattle.zf_plan.proofs.walk.Walk.tests.Goals as goal

pub returns-clause-bounded : goal.returns-clause-bounded
returns-clause-bounded g c = rw (← c.self.view_is) (c.tests.ensures.bounded c.self.invariant.counts)
