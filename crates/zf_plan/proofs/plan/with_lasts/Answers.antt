use Rattle.zf_plan.proofs.Prelude.{◌++◌, ◌+◌, ◌<◌, ◌∷◌, [], ◌≡◌, ◌∙◌, ap, arith, get_or, get_or_default, length, max, subst, sym, tree_at, trees_of, UsesFirst}
use Rattle.zf_plan.proofs.Numbers.{AreLastsSoFar, lasts_push}
use Rattle.zf_plan.proofs.plan.with_lasts.Goals as goal

pub loop-i-preserved : goal.loop-i-preserved
loop-i-preserved g c =
    let uses = g.J.Judge.is_used c.args.judge.now in
    let trees = trees_of c.args.forest.now in
    let k = c.args.component in
    let conjuncts = c.args.conjuncts.items in
    let last = c.loop-i.last in
    let used = c.last_used.result in
    let inside : c.loop-i.i < length conjuncts = omega (arith, c.loop-i-test.true, c.len-i-end.ensures, c.args.conjuncts.ok.0) in
    let item : c.index.result.now ≡ get_or conjuncts c.loop-i.i 0 = c.index.ensures ∙ get_or_default conjuncts c.loop-i.i c.index.result.now 0 inside in
    let now : UsesFirst uses used k (tree_at trees (get_or conjuncts c.loop-i.i 0)) =
    subst (λ j. UsesFirst uses used k (tree_at trees j)) item (subst (UsesFirst uses used k) c.root-root.ensures.tree c.last_used.ensures.first) in
    let most : c.max-last.result ≡ max used last = omega (arith, c.max-last.ensures) in
    let pushed : c.push.new.self.items ≡ c.loop-i.lasts.items ++ max used last ∷ [] = c.in_ok-push.ensures.items ∙ ap (λ n. c.loop-i.lasts.items ++ n ∷ []) most in
    let so = lasts_push uses trees k conjuncts c.loop-i.lasts.items c.loop-i.i last used c.loop-i.invariant.1 c.loop-i.invariant.0 c.last_used.ensures.few now in
    (omega (arith, most, c.loop-i.invariant.0, c.last_used.ensures.few), subst (AreLastsSoFar uses trees k conjuncts (c.loop-i.i + 1)) (sym pushed) so)
