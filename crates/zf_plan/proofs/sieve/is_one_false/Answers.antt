use Rattle.zf_plan.proofs.Prelude.{◌∙◌, rules, subst, False, IsSettled, picked, tree_at, trees_made}
use Rattle.zf_plan.proofs.sieve.is_one_false.Goals as goal

pub loop-i-preserved : goal.loop-i-preserved
loop-i-preserved g c = (c.in_ok-known.ensures.remembers, c.in_ok-known.ensures.same ∙ c.loop-i.invariant.1)

pub returns-in-Some-False-clause-is_false : goal.returns-in-Some-False-clause-is_false
returns-in-Some-False-clause-is_false g c = λ u.
    let l = g.J.Judge.conjuncts c.args.problem.now.judge.now in
    let row = picked c.args.problem.now.ranges.now c.args.places.now in
    let settled : IsSettled l (tree_at (trees_made c.args.problem.now.forest.now) c.root-root.result) row False = search rules in
    (c.loop-i.i, c.loop-i-test.true, subst (λ t. IsSettled l t row False) c.root-root.ensures.tree settled)
