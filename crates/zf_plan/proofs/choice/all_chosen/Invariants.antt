use Rattle.std.proofs.Common.{◌≡◌, get_or, length, None, ℕ}
use Rattle.zf_plan.proofs.choice.all_chosen.Given as goal

-- There is one for each range so far, with all places.
abbrev pub invariant-loop-range : goal.invariant-loop-range
invariant-loop-range l = (length l.choices.items ≡ l.range) × ((k : ℕ) → get_or l.choices.items k None ≡ None)
