-- The places so far are the first ones.
use Rattle.std.proofs.Common.{◌<◌, ◌≡◌, get_or, ℕ}
use Rattle.zf_parts.proofs.fronts.are_first.Given as goal

abbrev pub invariant-loop-i : goal.invariant-loop-i
invariant-loop-i l = (k : ℕ) → k < l.i → get_or l.places k 0 ≡ k
