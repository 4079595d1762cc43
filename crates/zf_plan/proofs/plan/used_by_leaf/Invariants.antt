use Rattle.zf_plan.proofs.Prelude.{◌<◌, ◌≡◌, true, ℕ, HasBit}
use Rattle.zf_plan.proofs.plan.used_by_leaf.Given as goal

-- There is a bit for each of the first components that is used.
abbrev pub invariant-loop-component : goal.invariant-loop-component
invariant-loop-component g l = (i : ℕ) → i < l.component → g.J.Judge.is_used l.judge l.of i ≡ true → HasBit l.word i
