-- No term needs a bound variable after the bound.
use Rattle.zf_meaning.proofs.Prelude.{◌+◌, ◌≤◌, arith, cond, ℕ, nat_tests, nat_lt, Reference, Component, Global, Local, need, part_need, place_below, ResolvedPart, ResolvedTree}
use Rattle.zf_shape.proofs.Greatest.{greatest-most, part-most}

below : (m i : ℕ) → cond (nat_lt i m) (i + 1) 0 ≤ m
below m i = grind (arith, nat_tests)

pub place-below : (m : ℕ) (r : Reference) → place_below m r ≤ m
place-below m (Component i) = omega arith
place-below m (Local i) = below m i
place-below m (Global i) = omega arith

pub need-below : (m : ℕ) (t : ResolvedTree) → need m t ≤ m
need-below m = greatest-most (place_below m) m (place-below m)

pub part-below : (m : ℕ) (p : ResolvedPart) → part_need m p ≤ m
part-below m = part-most (place_below m) m (place-below m)
