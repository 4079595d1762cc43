use Rattle.zf_plan.proofs.Prelude.{◌∙◌, ◌≡◌, [], ap, arith, get_or, length, subst, picked, Narrows}
use Rattle.zf_plan.proofs.choosing.gather_first.Goals as goal

pub returns-then-found-clause-narrows : goal.returns-then-found-clause-narrows
returns-then-found-clause-narrows g c =
    let ranges = c.args.problem.now.ranges.now in
    let places = c.args.places.now in
    subst (λ tree. Narrows (g.J.Judge.conjuncts c.args.problem.now.judge.now) tree ranges (picked ranges places)
    (get_or ranges (length places) []) c.gather.new.gathered.items) c.root-root.ensures.tree
    (c.in_ok-found.ensures.narrows c.if-found.true)

pub returns-in_err-found-clause-none : goal.returns-in_err-found-clause-none
returns-in_err-found-clause-none g c = λ e. absurd (let z : length c.args.conjuncts.now ≡ 0 = ap length e in omega (arith, z, c.loop-i-test.true))

pub returns-then-found-clause-none : goal.returns-then-found-clause-none
returns-then-found-clause-none g c = λ e. absurd (let z : length c.args.conjuncts.now ≡ 0 = ap length e in omega (arith, z, c.loop-i-test.true))

pub loop-i-preserved : goal.loop-i-preserved
loop-i-preserved g c = (c.in_ok-found.ensures.remembers, c.in_ok-found.ensures.same ∙ c.loop-i.invariant.1)
