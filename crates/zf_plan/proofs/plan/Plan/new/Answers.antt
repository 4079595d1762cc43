use Rattle.zf_plan.proofs.Prelude.{◌≡◌, ◌∙◌, false≢true, subst, sym, trees_of, true, ℕ, IsBare, IsLayer, Layer}
use Rattle.zf_plan.proofs.Numbers.{so_far_more}
use Rattle.zf_plan.proofs.plan.Plan.new.Goals as goal
use Rattle.zf_plan.proofs.plan.Plan.new.Goals.{then-not-is_plain+in_ok-add_choosers, else-not-is_plain}

pub loop-number-preserved : goal.loop-number-preserved
loop-number-preserved g c =
    let k = c.loop-number.number in
    let holds = λ (n : ℕ) (layer : Layer).
    IsLayer (g.J.Judge.conjuncts c.args.judge.now) (g.J.Judge.is_used c.args.judge.now) (trees_of c.args.forest.now) n layer × (c.args.is_plain ≡ true → IsBare layer) in
    so_far_more holds k c.loop-number.layers.items _ c.if-not-is_plain.layer c.in_ok-push.ensures.items c.loop-number.invariant (elim c.if-not-is_plain.branch [
      | then-not-is_plain+in_ok-add_choosers w ↦ subst (holds k) (sym w.layer-is) (w.in_ok-add_choosers.ensures, λ e. absurd (false≢true (sym w.if-not-is_plain.true ∙ e)))
      | else-not-is_plain w ↦ subst (holds k) (sym w.layer-is) (c.in_ok-layer.ensures.layer, λ e. c.in_ok-layer.ensures.bare)
    ])
