use Rattle.zf_why.proofs.Prelude.{◌<◌, ℕ, IsChosen}
use Rattle.zf_why.proofs.explaining.has_one.Given as goal

abbrev pub invariant-loop-place : goal.invariant-loop-place
invariant-loop-place l = (i : ℕ) → i < l.place → IsChosen l.chosen i → ⊥
