use Rattle.zf_plan.proofs.Prelude.{◌≡◌, ◌<◌, ◌+◌, ℕ, [], get_or, length, AreKeys}
use Rattle.zf_plan.proofs.keys.all_keys.Given as goal

-- Those for the leaves so far.
abbrev pub invariant-loop-leaf : goal.invariant-loop-leaf
invariant-loop-leaf g l = (length l.all.items ≡ l.leaf)
    × ((c k : ℕ) → c < l.leaf → (g.J.Judge.conjuncts l.judge).due c ≡ k + 1 → AreKeys (g.J.Guide.is_key l.judge c) (get_or l.ranges k []) (get_or l.all.items c []))
