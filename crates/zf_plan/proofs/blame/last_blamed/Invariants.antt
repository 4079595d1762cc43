use Rattle.zf_plan.proofs.Prelude.{◌<◌, ◌≤◌, ℕ, HasBit}
use Rattle.zf_plan.proofs.blame.last_blamed.Given as goal

-- The word has no bit after those that are left.
abbrev pub invariant-loop-depth : goal.invariant-loop-depth
invariant-loop-depth l = (l.depth ≤ l.range) × ((i : ℕ) → l.depth ≤ i → i < l.range → HasBit l.word i → ⊥)

abbrev pub decreases-loop-depth : goal.decreases-loop-depth
decreases-loop-depth l = l.depth
