use Rattle.zf_plan.proofs.Prelude.{◌≡◌, ◌+◌, ℕ, [], get_or, length, AreKeys}
use Rattle.zf_plan.proofs.keys.keys_of.Given as goal

-- Those of the values so far.
abbrev pub invariant-loop-place : goal.invariant-loop-place
invariant-loop-place g l = ((k : ℕ) → (g.J.Judge.conjuncts l.judge).due l.leaf ≡ k + 1 → AreKeys (g.J.Guide.is_key l.judge l.leaf) (get_or l.ranges k []) l.keys.items)
    × (length l.keys.items ≡ l.place)
