use Rattle.zf_plan.proofs.Prelude.{◌+◌, ◌∙◌, ◌≡◌, ap, subst, sym, trees_of, tree_at, Covers, HasBits, touches}
use Rattle.zf_plan.proofs.Blaming.{covers-skip, covers-touched}
use Rattle.zf_plan.proofs.plan.blame_at.Goals as goal
use Rattle.zf_plan.proofs.plan.blame_at.Goals.{then-is_touched, else-is_touched}

pub loop-conjunct-preserved : goal.loop-conjunct-preserved
loop-conjunct-preserved g c =
    let l = g.J.Judge.conjuncts c.args.judge.now in
    let uses = g.J.Judge.is_used c.args.judge.now in
    let trees = trees_of c.args.forest.now in
    let k = c.args.due in
    let n = c.loop-conjunct.conjunct in
    let old = c.loop-conjunct.word in
    let so : touches l k (tree_at trees n) ≡ c.is_touched.result = ap (touches l k) (sym c.root-root.ensures.tree) ∙ sym c.is_touched.ensures in
    elim c.if-is_touched.branch [
      | then-is_touched w ↦
          let more = w.used_by-word.result in
          subst (Covers l uses trees k (n + 1)) (sym w.word-is)
          (covers-touched l uses trees k n old more c.loop-conjunct.invariant (subst (HasBits uses more k) c.root-root.ensures.tree w.used_by-word.ensures))
      | else-is_touched w ↦ subst (Covers l uses trees k (n + 1)) (sym w.word-is) (covers-skip l uses trees k n old c.loop-conjunct.invariant (so ∙ w.if-is_touched.false))
    ]
