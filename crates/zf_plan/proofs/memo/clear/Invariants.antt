use Rattle.zf_plan.proofs.Prelude.{◌++◌, ◌≡◌, drop, map, take, cleared}
use Rattle.zf_plan.proofs.memo.clear.Given as goal

-- The leaves before this one are without their stamps, and the others are as they were.
abbrev pub invariant-loop-leaf : goal.invariant-loop-leaf
invariant-loop-leaf l = l.leaf-items ≡ map (cleared l.due) (take l.leaf-index l.fn.leaves.items) ++ drop l.leaf-index l.fn.leaves.items
