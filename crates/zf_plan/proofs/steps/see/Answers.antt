use Rattle.zf_plan.proofs.Prelude.{◌++◌, ◌+◌, ◌∷◌, ◌≡◌, [], arith, length, length-append, subst, sym, picked, trees_of, AreDue, IsTold}
use Rattle.zf_plan.proofs.Seeing.{leaves-due}
use Rattle.zf_plan.proofs.SoFar.{told-so}
use Rattle.zf_plan.proofs.steps.see.Goals as goal

pub seen-requires-clause-leaves : goal.seen-requires-clause-leaves
seen-requires-clause-leaves g c =
    let l = g.J.Judge.conjuncts c.args.problem.now.judge.now in
    let trees = trees_of c.args.problem.now.forest.now in
    let k = length c.args.places.now + 1 in
    leaves-due l trees c.requires.asked.sound.leaves k c.deref.result.now (subst (AreDue l trees k (length trees)) (sym c.deref.ensures.value) c.layer-layer.ensures.layer.due)

pub returns-clause-seen : goal.returns-clause-seen
returns-clause-seen g c = λ i t within seen.
    let l = g.J.Judge.conjuncts c.args.problem.now.judge.now in
    let trees = trees_of c.args.problem.now.forest.now in
    let ranges = c.args.problem.now.ranges.now in
    let longer = c.args.places.now ++ i ∷ [] in
    let leaves = c.deref.result.now in
    let long : length longer ≡ length c.args.places.now + 1 = omega (arith, length-append c.args.places.now (i ∷ [])) in
    let due = subst (AreDue l trees (length c.args.places.now + 1) (length trees)) (sym c.deref.ensures.value) c.layer-layer.ensures.layer.due in
    subst (λ n. IsTold l trees (picked ranges longer) n t) long
    (told-so l trees (g.met.J.Judge.kept c.args.problem.now.judge.now) c.requires.asked.sound.leaves ranges longer within leaves
    (subst (λ n. AreDue l trees n (length trees) leaves) (sym long) due) t (c.seen.ensures i t within seen))
