use Rattle.zf_steps.proofs.Prelude.{◌≡◌, ◌≢◌, ◌<◌, ℕ, None, Some, true, slice_get, held_at}
use Rattle.zf_steps.proofs.renewed.are_held_again.Given as goal

abbrev pub invariant-loop-place : goal.invariant-loop-place
invariant-loop-place l = (i : ℕ) → i < l.place → slice_get l.given i ≡ Some true → held_at i l.held ≢ None
