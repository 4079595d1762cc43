use Rattle.std.proofs.Common.{◌≡◌, ◌∷◌, take}
use Rattle.zf_families.proofs.rows.begun.Given as goal

abbrev pub invariant-loop-q : goal.invariant-loop-q
invariant-loop-q l = l.items.items ≡ l.p ∷ take l.q-index l.row
