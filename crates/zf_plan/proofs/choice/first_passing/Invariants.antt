use Rattle.zf_plan.proofs.Prelude.{◌<◌, ◌≤◌, ℕ, Contains, passing}
use Rattle.zf_plan.proofs.choice.first_passing.Given as goal

-- None of the places so far is marked.
abbrev pub invariant-loop-place : goal.invariant-loop-place
invariant-loop-place l = (i : ℕ) → l.from ≤ i → i < l.place → Contains (passing 0 l.passes) i → ⊥
