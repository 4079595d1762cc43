use Rattle.zf_plan.proofs.Prelude.{◌∙◌, ◌≡◌, AreBelow, cond, length, None, refl, Some, subst, sym, trees_of, AreLasts, IsGreatest, passing}
use Rattle.zf_plan.proofs.Sieving.{all-still, sifted-stays}
use Rattle.zf_plan.proofs.Results.{on-err}
use Rattle.zf_plan.proofs.sieve.sift.Goals as goal

pub returns-clause-few : goal.returns-clause-few
returns-clause-few g c =
    let k = length c.args.places.now in
    c.greatest.ensures.least k (subst (λ ns. IsGreatest ns k) (sym c.deref-2.ensures.value) (λ i h. (c.requires.by.lasts.each i h).0))

pub returns-clause-choice : goal.returns-clause-choice
returns-clause-choice g c =
    let uses = g.J.Judge.is_used c.args.problem.now.judge.now in
    let trees = trees_of c.args.problem.now.forest.now in
    let k = length c.args.places.now in
    let conjuncts = subst (AreBelow (length trees)) (sym c.deref.ensures.value) c.requires.by.conjuncts in
    let lasts = subst (λ cs. AreLasts uses trees k cs c.deref-2.result.now) (sym c.deref.ensures.value)
    (subst (AreLasts uses trees k c.args.by.now.conjuncts.items) (sym c.deref-2.ensures.value) c.requires.by.lasts) in
    sifted-stays (g.J.Judge.conjuncts c.args.problem.now.judge.now) trees c.args.problem.now.ranges.now k c.greatest.result c.args.places.now uses
    (g.met.J.Judge.follow_used c.args.problem.now.judge.now) c.requires.asked.sound.due c.requires.asked.within refl c.requires.deeper c.deref.result.now
    c.deref-2.result.now conjuncts lasts c.requires.asked.sound.leaves
    c.greatest.ensures.all c.mark_passing.new.passes.items c.in_ok-mark_passing.ensures.sifted

pub returns-in_err-mark_passing-clause-refused : goal.returns-in_err-mark_passing-clause-refused
returns-in_err-mark_passing-clause-refused g c =
    let i = c.choice.inside in
    let now = cond i.marked (passing 0 c.mark_passing.new.passes.items) i.places.items in
    on-err c.from_residual.result (c.args.choice.now ≡ None → cond i.all None (Some now) ≡ None)
    (λ e. all-still i.all (cond i.marked (passing 0 i.passes.items) i.places.items) now (c.choice.view_is ∙ e))
