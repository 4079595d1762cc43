use Rattle.zf_plan.proofs.Prelude.{◌+◌, ◌∙◌, ◌≡◌, ap, arith, get_or, length, Ok, refl, subst, sym, length-picked, picked, IsKnown, IsSoFar, tree_at, trees_of, IsAmong}
use Rattle.zf_plan.proofs.SoFar.{first-all, first-next, first-none, IsFirst, so-false}
use Rattle.zf_plan.proofs.evaluating.test_trees.Goals as goal

pub loop-i-init : goal.loop-i-init
loop-i-init g c =
    let l = g.J.Judge.conjuncts c.args.problem.now.judge.now in
    let row = picked c.args.problem.now.ranges.now c.args.places.now in
    let long = length-picked c.args.problem.now.ranges.now c.args.places.now c.requires.asked.within in (
      c.requires.asked.remembers,
      refl,
      c.requires.before,
      (λ e. refl),
      first-none l (trees_of c.args.problem.now.forest.now) (length c.args.places.now) row long c.args.conjuncts.now c.args.before c.requires.so_far,
    )

pub loop-i-preserved : goal.loop-i-preserved
loop-i-preserved g c =
    let l = g.J.Judge.conjuncts c.args.problem.now.judge.now in
    let trees = trees_of c.args.problem.now.forest.now in
    let row = picked c.args.problem.now.ranges.now c.args.places.now in
    let k = length c.args.places.now in
    let long = length-picked c.args.problem.now.ranges.now c.args.places.now c.requires.asked.within in
    let i = c.loop-i.i in
    let conjunct = get_or c.args.conjuncts.now i 0 in
    let before = c.loop-i.invariant in
    let known : IsKnown l (tree_at trees conjunct) row c.in_ok-known.known = subst (λ tree. IsKnown l tree row c.in_ok-known.known) c.root-root.ensures.tree c.in_ok-known.ensures.known in (
      c.in_ok-known.ensures.remembers,
      c.in_ok-known.ensures.same ∙ before.1,
      c.in_default.not-False,
      (λ e. absurd (omega arith)),
      subst (IsSoFar l trees row (IsFirst l trees k c.args.conjuncts.now (i + 1))) (sym c.join-all.ensures)
          (first-next l trees k row long c.args.conjuncts.now i conjunct c.loop-i.all c.in_ok-known.known refl (c.requires.conjuncts i c.loop-i-test.true)
          (c.requires.touched i c.loop-i-test.true) before.2 before.4 known),
    )

pub returns-in-False-clause-so_far : goal.returns-in-False-clause-so_far
returns-in-False-clause-so_far g c =
    let l = g.J.Judge.conjuncts c.args.problem.now.judge.now in
    let trees = trees_of c.args.problem.now.forest.now in
    let row = picked c.args.problem.now.ranges.now c.args.places.now in
    let k = length c.args.places.now in
    let long = length-picked c.args.problem.now.ranges.now c.args.places.now c.requires.asked.within in
    let i = c.loop-i.i in
    let conjunct = get_or c.args.conjuncts.now i 0 in
    let before = c.loop-i.invariant in
    let known : IsKnown l (tree_at trees conjunct) row c.in_ok-known.known = subst (λ tree. IsKnown l tree row c.in_ok-known.known) c.root-root.ensures.tree c.in_ok-known.ensures.known in
    let next = first-next l trees k row long c.args.conjuncts.now i conjunct c.loop-i.all c.in_ok-known.known refl (c.requires.conjuncts i c.loop-i-test.true)
    (c.requires.touched i c.loop-i-test.true) before.2 before.4 known in
    subst (IsSoFar l trees row (IsAmong l trees k c.args.conjuncts.now)) (sym c.in-False.is)
    (so-false l trees (IsFirst l trees k c.args.conjuncts.now (i + 1)) (IsAmong l trees k c.args.conjuncts.now) row
    (subst (IsSoFar l trees row (IsFirst l trees k c.args.conjuncts.now (i + 1))) (sym c.join-all.ensures ∙ c.in-False.is) next))

pub returns-clause-so_far : goal.returns-clause-so_far
returns-clause-so_far g c =
    let l = g.J.Judge.conjuncts c.args.problem.now.judge.now in
    let trees = trees_of c.args.problem.now.forest.now in
    let row = picked c.args.problem.now.ranges.now c.args.places.now in
    let k = length c.args.places.now in
    let long = length-picked c.args.problem.now.ranges.now c.args.places.now c.requires.asked.within in
    let all : c.loop-i.i ≡ length c.args.conjuncts.now = omega (arith, c.loop-i-test.false, c.loop-i.auto.i-end) in
    first-all l trees k row long c.args.conjuncts.now c.loop-i.all
    (subst (λ i. IsSoFar l trees row (IsFirst l trees k c.args.conjuncts.now i) c.loop-i.all) all c.loop-i.invariant.4)

pub returns-clause-none : goal.returns-clause-none
returns-clause-none g c = λ none. ap Ok (c.loop-i.invariant.3 (omega (arith, ap length none, c.loop-i.auto.i-end)))
