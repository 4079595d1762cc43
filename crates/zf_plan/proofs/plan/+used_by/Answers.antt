use Rattle.zf_plan.proofs.Prelude.{subst, sym, tree_at, trees_made, bit_or, HasBits}
use Rattle.zf_plan.proofs.Blaming.{bits-left, bits-right}
use Rattle.zf_plan.proofs.plan.+used_by.Goals as goal

pub returns-in-And : goal.returns-in-And
returns-in-And g t c =
    let uses = g.J.Judge.is_used c.args.judge.now in
    let k = c.args.components in
    let first = c.used_by-in-And.result in
    let second = c.used_by-in-And-2.result in
    let made = trees_made c.args.forest.now in
    subst (HasBits uses (bit_or first second) k) (sym c.in-And.ensures.tree) (
      bits-left uses first second k (tree_at made c.in-And.left) c.used_by-in-And.ensures,
      bits-right uses first second k (tree_at made c.in-And.right) c.used_by-in-And-2.ensures,
    )

pub returns-in-Or : goal.returns-in-Or
returns-in-Or g t c =
    let uses = g.J.Judge.is_used c.args.judge.now in
    let k = c.args.components in
    let first = c.used_by-in-Or.result in
    let second = c.used_by-in-Or-2.result in
    let made = trees_made c.args.forest.now in
    subst (HasBits uses (bit_or first second) k) (sym c.in-Or.ensures.tree) (
      bits-left uses first second k (tree_at made c.in-Or.left) c.used_by-in-Or.ensures,
      bits-right uses first second k (tree_at made c.in-Or.right) c.used_by-in-Or-2.ensures,
    )
