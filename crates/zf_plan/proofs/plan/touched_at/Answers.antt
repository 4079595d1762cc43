use Rattle.zf_plan.proofs.Prelude.{◌+◌, ◌∙◌, ◌≡◌, ap, subst, sym, trees_of, tree_at, Global, Vec, ℕ, AreTouched, touches_inside}
use Rattle.zf_plan.proofs.Numbers.{touched_push, touched_skip}
use Rattle.zf_plan.proofs.plan.touched_at.Goals as goal
use Rattle.zf_plan.proofs.plan.touched_at.Goals.{then-is_touched_inside+in_ok-push, else-is_touched_inside}

pub loop-conjunct-preserved : goal.loop-conjunct-preserved
loop-conjunct-preserved g c =
    let l = g.J.Judge.conjuncts c.args.judge.now in
    let trees = trees_of c.args.forest.now in
    let n = c.loop-conjunct.conjunct in
    let numbers = c.loop-conjunct.numbers.items in
    let so : touches_inside l c.args.due (tree_at trees n) ≡ c.is_touched_inside.result = ap (touches_inside l c.args.due) (sym c.root.ensures.tree) ∙ sym c.is_touched_inside.ensures in
    elim c.if-is_touched_inside.branch [
      | then-is_touched_inside+in_ok-push w ↦
          subst (AreTouched l trees c.args.due (n + 1)) (sym (ap (λ (v : Vec ℕ Global). v.items) w.numbers-is ∙ w.in_ok-push.ensures.items))
          (touched_push l trees c.args.due n numbers c.loop-conjunct.invariant (so ∙ w.if-is_touched_inside.true))
      | else-is_touched_inside w ↦
          subst (AreTouched l trees c.args.due (n + 1)) (sym (ap (λ (v : Vec ℕ Global). v.items) w.numbers-is))
          (touched_skip l trees c.args.due n numbers c.loop-conjunct.invariant (so ∙ w.if-is_touched_inside.false))
    ]
