-- None of the names so far is the word.
use Rattle.zf_read.proofs.Prelude.{◌<◌, ◌≡◌, ℕ, spelled, Named}
use Rattle.zf_read.proofs.elements.named.Given as goal

abbrev pub invariant-loop-place : goal.invariant-loop-place
invariant-loop-place l = (i : ℕ) → i < l.place → l.word ≡ spelled (Named l.names) i → ⊥
