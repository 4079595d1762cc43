use Rattle.zf_plan.proofs.Prelude.{◌+◌, ◌∙◌, ap, subst, sym, trees_of, tree_at, ℕ, Global, Vec, AreDue, IsLeafDue}
use Rattle.zf_plan.proofs.Numbers.{due_push, due_skip}
use Rattle.zf_plan.proofs.plan.due_at.Goals as goal
use Rattle.zf_plan.proofs.plan.due_at.Goals.{in-Some+in_ok-push, in_default}

pub loop-conjunct-preserved : goal.loop-conjunct-preserved
loop-conjunct-preserved g c =
    let l = g.J.Judge.conjuncts c.args.judge.now in
    let trees = trees_of c.args.forest.now in
    let due = c.args.due in
    let n = c.loop-conjunct.conjunct in
    let leaves = c.loop-conjunct.numbers.items in
    elim c.match-leaf_due.branch [
      | in-Some+in_ok-push w ↦
          let is : IsLeafDue l due (tree_at trees n) w.in-Some.leaf = subst (λ tree. IsLeafDue l due tree w.in-Some.leaf) c.root.ensures.tree w.in-Some.ensures in
          subst (AreDue l trees due (n + 1)) (sym (ap (λ (v : Vec ℕ Global). v.items) w.numbers-is ∙ w.in_ok-push.ensures.items))
          (due_push l trees due n leaves w.in-Some.leaf c.loop-conjunct.invariant is)
      | in_default w ↦
          subst (AreDue l trees due (n + 1)) (sym (ap (λ (v : Vec ℕ Global). v.items) w.numbers-is)) (due_skip l trees due n leaves c.loop-conjunct.invariant
          (λ x is. w.in_default.ensures x (subst (λ tree. IsLeafDue l due tree x) (sym c.root.ensures.tree) is)))
    ]
