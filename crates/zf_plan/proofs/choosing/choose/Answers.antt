use Rattle.zf_plan.proofs.Prelude.{[], ◌<◌, ◌∙◌, ◌≡◌, ap, arith, AreBelow, get_or, get_or_default, IfSome, leaf, length, Narrows, picked, range-is, refl, Some, subst, sym, tree_at, trees_of, AreLasts, KeepsChosen, UsesFirst}
use Rattle.zf_plan.proofs.Marking.{stays-narrowed}
use Rattle.zf_plan.proofs.Sieving.{stays-kept}
use Rattle.zf_plan.proofs.choosing.choose.Goals as goal

pub returns-in_ok-mark-in-Some-clause-choice : goal.returns-in_ok-mark-in-Some-clause-choice
returns-in_ok-mark-in-Some-clause-choice g c =
    let l = g.J.Judge.conjuncts c.args.problem.now.judge.now in
    let trees = trees_of c.args.problem.now.forest.now in
    let ranges = c.args.problem.now.ranges.now in
    let places = c.args.places.now in
    let conjuncts = c.deref.result.now in
    let uses = g.J.Judge.is_used c.args.problem.now.judge.now in
    let last = c.index.result.now in
    let lasts = subst (λ cs. AreLasts uses trees (length places) cs c.args.by.now.lasts.items) (sym c.deref.ensures.value) c.requires.by.lasts in
    let i = c.in-Some.i in
    let left = c.gather_first.new.gathered.items in
    let within : i < length conjuncts = subst (λ found. IfSome found (λ j. j < length conjuncts)) c.in-Some.is c.in_ok-found.ensures.within in
    let narrows : Narrows l (tree_at trees (get_or conjuncts i 0)) ranges (picked ranges places) (get_or ranges (length places) []) left =
    subst (λ found. IfSome found (λ j. Narrows l (tree_at trees (get_or conjuncts j 0)) ranges (picked ranges places) (get_or ranges (length places) []) left))
    c.in-Some.is c.in_ok-found.ensures.narrows in
    let conjunct : get_or conjuncts i 0 < length trees = subst (AreBelow (length trees)) (sym c.deref.ensures.value) c.requires.by.conjuncts i within in
    let inside : i < length c.args.by.now.lasts.items = omega (arith, lasts.all, within) in
    let read : last ≡ get_or c.args.by.now.lasts.items i 0 = c.index.ensures ∙ get_or_default c.args.by.now.lasts.items i last 0 inside in
    let v = c.range.inside.values in
    let column = range-is ranges (length places) c.index-problem-places.result c.requires.deeper c.index-problem-places.is in
    let count : c.len.result ≡ length (get_or ranges (length places) []) =
    omega (arith, c.len.ensures, v.ok.0, ap length c.range.view_is, ap length c.index-problem-places.is, ap length column) in
    stays-kept l trees ranges (length places) last places (Some left) c.mark.new.self
    (subst (λ n. KeepsChosen n (Some left) c.mark.new.self) count c.in_ok-mark-in-Some.ensures)
    (stays-narrowed l trees ranges (length places) last places uses
    (g.met.J.Judge.follow_used c.args.problem.now.judge.now) c.requires.asked.sound.due c.requires.asked.within refl
    (get_or conjuncts i 0) conjunct (c.requires.asked.sound.leaves (get_or conjuncts i 0) (leaf 0) conjunct)
    (subst (λ n. UsesFirst uses n (length places) (tree_at trees (get_or conjuncts i 0))) (sym read) (lasts.each i inside).1) left narrows)

pub returns-in_ok-mark-in-Some-clause-few : goal.returns-in_ok-mark-in-Some-clause-few
returns-in_ok-mark-in-Some-clause-few g c =
    let i = c.in-Some.i in
    let lasts = c.requires.by.lasts in
    let within : i < length c.deref.result.now = subst (λ found. IfSome found (λ j. j < length c.deref.result.now)) c.in-Some.is c.in_ok-found.ensures.within in
    let inside : i < length c.args.by.now.lasts.items = omega (arith, lasts.all, within, ap length c.deref.ensures.value) in
    omega (arith, (lasts.each i inside).0, c.index.ensures ∙ get_or_default c.args.by.now.lasts.items i c.index.result.now 0 inside)
