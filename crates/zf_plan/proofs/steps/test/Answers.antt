use Rattle.zf_plan.proofs.Prelude.{◌∙◌, ◌≡◌, ap, length, option_copied, subst, sym, take, get_or, picked, path, trees_of, Place, IsSeen, AreHeld, IsTold}
use Rattle.zf_walk.proofs.Marking.{unseen-nothing}
use Rattle.zf_plan.proofs.Moving.{length-bound}
use Rattle.zf_plan.proofs.Seeing.{told-path}
use Rattle.zf_plan.proofs.Stepping.{finds-refuted}
use Rattle.zf_plan.proofs.steps.test.Goals as goal

pub returns-in-Some-False-clause-finds : goal.returns-in-Some-False-clause-finds
returns-in-Some-False-clause-finds g c =
    let l = g.J.Judge.conjuncts c.args.problem.now.judge.now in
    let trees = trees_of c.args.problem.now.forest.now in
    let ranges = c.args.problem.now.ranges.now in
    let p : Place = c.args.place.now in
    let e = c.in-Some-False.ensures in
    let told : IsTold l trees (path ranges p) p.depth c.in-Some-False.field-0 = told-path l trees ranges p c.requires.at c.requires.seen e.0 e.1 c.in-Some-False.field-0 e.2 in
    finds-refuted g.V.Ord.cmp l trees (length ranges) (option_copied c.args.problem.now.after) (path ranges p) (subst (IsTold l trees (path ranges p) p.depth) c.in-Some-False.field-0-is told)

pub test_told-requires-clause-told : goal.test_told-requires-clause-told
test_told-requires-clause-told g c =
    let l = g.J.Judge.conjuncts c.args.problem.now.judge.now in
    let trees = trees_of c.args.problem.now.forest.now in
    let ranges = c.args.problem.now.ranges.now in
    let p : Place = c.args.place.now in
    let e = c.in-Some-True.ensures in
    let told : IsTold l trees (path ranges p) p.depth c.in-Some-True.field-0 = told-path l trees ranges p c.requires.at c.requires.seen e.0 e.1 c.in-Some-True.field-0 e.2 in
    let held : AreHeld l trees (path ranges p) p.depth = subst (IsTold l trees (path ranges p) p.depth) c.in-Some-True.field-0-is told in
    let long : length (take p.depth c.deref.result.now) ≡ p.depth = ap (λ is. length (take p.depth is)) c.deref.ensures.value ∙ length-bound ranges p c.requires.at in
    subst (λ is. AreHeld l trees (picked ranges (take p.depth is)) (length (take p.depth c.deref.result.now))) (sym c.deref.ensures.value)
    (subst (AreHeld l trees (path ranges p)) (sym long) held)

pub returns-in-Some-True-clause-counts : goal.returns-in-Some-True-clause-counts
returns-in-Some-True-clause-counts g c = λ plain none counts.
    let p : Place = c.args.place.now in
    let e = c.in-Some-True.ensures in
    absurd (unseen-nothing (get_or p.places.items e.0 0) c.in-Some-True.field-0 (subst (λ s. IsSeen s (get_or p.places.items e.0 0) c.in-Some-True.field-0) (none e.0) e.2))
