use Rattle.zf_plan.proofs.Prelude.{◌<◌, ◌≤◌, ℕ, get_or, IsGreatest}
use Rattle.zf_plan.proofs.sieve.greatest.Given as goal

-- None of the numbers so far is greater, and none that is as great as all is less.
abbrev pub invariant-loop-i : goal.invariant-loop-i
invariant-loop-i l = ((j : ℕ) → j < l.i → get_or l.numbers j 0 ≤ l.most) × ((n : ℕ) → IsGreatest l.numbers n → l.most ≤ n)
