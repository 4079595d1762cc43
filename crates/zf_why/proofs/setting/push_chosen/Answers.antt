use Rattle.zf_why.proofs.Prelude.{◌++◌, ◌+◌, ◌∙◌, ◌≡◌, arith, drop, List, Some, subst, sym, slice_get, chosen_of, Conjunct, goes_in}
use Rattle.zf_why.proofs.Lists.{read_at, stays_out_at}
use Rattle.zf_why.proofs.setting.push_chosen.Goals.{then-chosen-place+in_ok-share+in_ok-push, else-chosen-place}
use Rattle.zf_why.proofs.setting.push_chosen.Goals as goal

pub loop-place-preserved : goal.loop-place-preserved
loop-place-preserved c =
    let cs = c.args.conjuncts.now in
    let m = c.args.chosen.now in
    let i = c.loop-place.place in
    let goes = (λ (p q : List Conjunct) (is : p ≡ q) (h : c.args.part.now ++ chosen_of cs m ≡ q ++ chosen_of (drop (i + 1) cs) (drop (i + 1) m)).
    subst (λ (r : List Conjunct). c.args.part.now ++ chosen_of cs m ≡ r ++ chosen_of (drop (i + 1) cs) (drop (i + 1) m)) (sym is) h) in
    elim c.if-chosen-place.branch [
      | then-chosen-place+in_ok-share+in_ok-push w ↦
          let x = w.index-conjuncts-place.result in
          let there : slice_get cs i ≡ Some x = read_at cs i x x c.loop-place-test.true (sym w.index-conjuncts-place.is) in
          goes _ _ (w.part-is ∙ w.in_ok-push.ensures.ok)
          (goes_in _ c.loop-place.part cs m i w.in_ok-share.field-0 (subst (λ (y : Conjunct). slice_get cs i ≡ Some y) (sym w.in_ok-share.ensures) there)
          (read_at m i _ _ (omega (arith, c.requires, c.loop-place-test.true)) w.if-chosen-place.true) c.loop-place.invariant)
      | else-chosen-place w ↦
          goes _ _ w.part-is (stays_out_at _ c.loop-place.part cs m i c.loop-place-test.true
          (read_at m i _ _ (omega (arith, c.requires, c.loop-place-test.true)) w.if-chosen-place.false) c.loop-place.invariant)
    ]
