use Rattle.zf_plan.proofs.Prelude.{arith, subst, sym, tree_at, trees_made, UsesFirst}
use Rattle.zf_plan.proofs.Marking.{uses-more}
use Rattle.zf_plan.proofs.plan.+last_used.Goals as goal

pub returns-in-And-clause-first : goal.returns-in-And-clause-first
returns-in-And-clause-first g t c =
    let uses = g.J.Judge.is_used c.args.judge.now in
    let k = c.args.component in
    let made = trees_made c.args.forest.now in
    let most = c.max.result in
    subst (UsesFirst uses most k) (sym c.in-And.ensures.tree) (
      uses-more uses c.last_used-last.result most k (omega (arith, c.max.ensures)) (tree_at made c.in-And.left) c.last_used-last.ensures.first,
      uses-more uses c.last_used-in-And.result most k (omega (arith, c.max.ensures)) (tree_at made c.in-And.right) c.last_used-in-And.ensures.first,
    )

pub returns-in-Or-clause-first : goal.returns-in-Or-clause-first
returns-in-Or-clause-first g t c =
    let uses = g.J.Judge.is_used c.args.judge.now in
    let k = c.args.component in
    let made = trees_made c.args.forest.now in
    let most = c.max-in-Or.result in
    subst (UsesFirst uses most k) (sym c.in-Or.ensures.tree) (
      uses-more uses c.last_used-last-in-Or.result most k (omega (arith, c.max-in-Or.ensures)) (tree_at made c.in-Or.left) c.last_used-last-in-Or.ensures.first,
      uses-more uses c.last_used-in-Or.result most k (omega (arith, c.max-in-Or.ensures)) (tree_at made c.in-Or.right) c.last_used-in-Or.ensures.first,
    )
