use Rattle.zf_plan.proofs.Prelude.{subst, sym, trees_of, Grove, AreTests, counted, IsWalk}
use Rattle.zf_plan.proofs.Walking.{advances-ok, stays-err, under-ok}
use Rattle.zf_plan.proofs.walk.Walk.advance.Goals as goal

pub invariant_of-self : goal.invariant_of-self
invariant_of-self g c =
    let w = c.self.inside.search in
    let new = c.advance.new.self in
    let p = c.advance.ensures.problem in
    subst (λ j. IsWalk (g.J.Judge.conjuncts j) new.forest new.counts) (sym p.judge)
    (subst (λ (f : Grove). IsWalk (g.J.Judge.conjuncts w.judge) f new.counts) (sym p.forest) (subst (λ b. IsWalk (g.J.Judge.conjuncts w.judge) w.forest b) (sym p.counts) c.self.invariant))

pub returns-clause-problem : goal.returns-clause-problem
returns-clause-problem g c = let p = c.advance.ensures.problem in rw (← c.self.view_is) (record { judge = p.judge; stage = p.stage })

pub returns-clause-answer : goal.returns-clause-answer
returns-clause-answer g c =
    let w = c.self.inside.search in
    rw (← c.self.view_is) (advances-ok g.V.Ord.cmp (g.J.Judge.conjuncts w.judge) (trees_of w.forest) c.self.invariant.flat w.stage c.advance.new.self.stage c.advance.result c.advance.ensures.answer)

pub returns-clause-tests : goal.returns-clause-tests
returns-clause-tests g c =
    let w = c.self.inside.search in
    rw (← c.self.view_is) (under-ok c.advance.result w.counts (AreTests g.V.Ord.cmp (g.J.Judge.conjuncts w.judge)
    (counted c.advance.new.self) c.advance.new.self.stage.last) c.self.invariant.counts c.advance.ensures.tests)

pub returns-clause-refused : goal.returns-clause-refused
returns-clause-refused g c =
    let w = c.self.inside.search in
    rw (← c.self.view_is) (stays-err g.V.Ord.cmp (g.J.Judge.conjuncts w.judge) (trees_of w.forest) c.self.invariant.flat w.stage c.advance.new.self.stage c.advance.result c.advance.ensures.refused)
