use Rattle.zf_walk.proofs.Prelude.{◌++◌, ◌∷◌, ◌≡◌, [], drop, ℕ, number}
use Rattle.zf_walk.proofs.table.Table.front.Given as goal

-- the digits that are left make the whole number, whichever value comes next
abbrev pub invariant-loop-i : goal.invariant-loop-i
invariant-loop-i l = (i : ℕ) → number l.number (drop l.i l.self.used.items) (l.places ++ i ∷ []) ≡ number 0 l.self.used.items (l.places ++ i ∷ [])
