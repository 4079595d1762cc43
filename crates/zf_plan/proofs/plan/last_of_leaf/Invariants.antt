use Rattle.zf_plan.proofs.Prelude.{◌<◌, ◌≡◌, ◌≤◌, false, ℕ}
use Rattle.zf_plan.proofs.plan.last_of_leaf.Given as goal

-- None is used after those that are left.
abbrev pub invariant-loop-last : goal.invariant-loop-last
invariant-loop-last g l = (l.last ≤ l.component) × ((i : ℕ) → l.last ≤ i → i < l.component → g.J.Judge.is_used l.judge l.of i ≡ false)

abbrev pub decreases-loop-last : goal.decreases-loop-last
decreases-loop-last g l = l.last
