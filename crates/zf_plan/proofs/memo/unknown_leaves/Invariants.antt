use Rattle.zf_plan.specs.{AreUnknown}
use Rattle.zf_plan.proofs.memo.unknown_leaves.Given as goal

-- Nothing is known of the leaves so far.
abbrev pub invariant-loop-leaf : goal.invariant-loop-leaf
invariant-loop-leaf g l = AreUnknown (g.J.Judge.conjuncts l.judge) l.leaf l.leaves.items
