use Rattle.zf_plan.proofs.Prelude.{◌≡◌, ◌<◌, ℕ, false, true, get_or, length}
use Rattle.zf_plan.proofs.choice.marked.Given as goal

-- The places so far are marked.
abbrev pub invariant-loop-i : goal.invariant-loop-i
invariant-loop-i l = (length l.passes.items ≡ l.length)
    × ((j : ℕ) → j < l.i → get_or l.places.items j 0 < l.length → get_or l.passes.items (get_or l.places.items j 0) false ≡ true)
