use Rattle.std.proofs.Common.{◌<◌, ◌≤◌, ℕ, get_or}
use Rattle.zf_plan.proofs.choice.least_from.Given as goal

-- None of the places so far is less, from one on.
abbrev pub invariant-loop-i : goal.invariant-loop-i
invariant-loop-i l = (l.from ≤ l.least) × ((j : ℕ) → j < l.i → l.from ≤ get_or l.places j 0 → l.least ≤ get_or l.places j 0)
