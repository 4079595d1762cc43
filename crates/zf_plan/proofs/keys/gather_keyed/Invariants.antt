use Rattle.zf_plan.proofs.Prelude.{◌≡◌, ◌<◌, ℕ, Contains, get_or, StaysIn}
use Rattle.zf_plan.proofs.keys.gather_keyed.Given as goal

-- What was there, and the places so far.
abbrev pub invariant-loop-place : goal.invariant-loop-place
invariant-loop-place l = StaysIn l.initial.gathered.items l.gathered.items × ((i : ℕ) → i < l.place → get_or l.keys i 0 ≡ l.wanted → Contains l.gathered.items i)
