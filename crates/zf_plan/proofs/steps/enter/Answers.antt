use Rattle.zf_plan.proofs.Prelude.{◌<◌, ◌∙◌, ◌≡◌, ap, arith, get_or_default, length, subst, sym, trees_of, Place, HasBit, mark_at, unmarked, Mark}
use Rattle.zf_plan.proofs.Blaming.{blamed-choice}
use Rattle.zf_plan.proofs.Moving.{length-bound}
use Rattle.zf_plan.proofs.steps.enter.Goals as goal

pub returns-clause-blamed : goal.returns-clause-blamed
returns-clause-blamed g c =
    let l = g.J.Judge.conjuncts c.args.problem.now.judge.now in
    let trees = trees_of c.args.problem.now.forest.now in
    let ranges = c.args.problem.now.ranges.now in
    let p : Place = c.args.place.now in
    let q : Place = c.choose_next.new.place in
    let made = c.in_ok-choose_next.ensures in
    let deep : q.depth ≡ p.depth = ap (λ (w : Place). w.depth) made.enters.place.is in
    let inside : q.depth < length q.marks.choices.items = omega (arith, deep, made.enters.place.all, c.requires.at.all_marks, c.requires.deeper) in
    let mark : c.index-mark.result.now ≡ mark_at q.marks p.depth = c.index-mark.ensures
    ∙ sym (get_or_default q.marks.choices.items q.depth unmarked c.index-mark.result.now inside) ∙ ap (mark_at q.marks) deep in
    let due : c.index-mark.result.now.due ≡ (mark_at q.marks p.depth).due = ap (λ (m : Mark). m.due) mark in
    let blame : (mark_at c.accuse-2.new.self p.depth).blame ≡ c.first_bits.result = ap (λ i. (mark_at c.accuse-2.new.self i).blame) (sym deep) ∙ c.accuse-2.ensures.blame in
    blamed-choice l trees ranges p.places.items p.depth (mark_at q.marks p.depth).due c.choose_next.new.choice (mark_at c.accuse-2.new.self p.depth)
    (length-bound ranges p c.requires.at) made.enters.kept.few
    (λ i low. subst (λ w. HasBit w i) (sym blame) (c.first_bits.ensures i (omega (arith, low, due)))) made.choice
