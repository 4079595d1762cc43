use Rattle.zf_plan.proofs.Prelude.{◌≤◌, trees_of}
use Rattle.zf_plan.proofs.Numbers.{AreLastsSoFar}
use Rattle.zf_plan.proofs.plan.with_lasts.Given as goal

-- There is the last one of each conjunct so far.
abbrev pub invariant-loop-i : goal.invariant-loop-i
invariant-loop-i g l = (l.last ≤ l.component) × AreLastsSoFar (g.J.Judge.is_used l.judge) (trees_of l.forest) l.component l.conjuncts.items l.i l.lasts.items
