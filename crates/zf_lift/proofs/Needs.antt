-- A term that needs no more components than another uses no more.
use Rattle.zf_lift.proofs.Prelude.{◌∷◌, ◌≤◌, [], arith, List, ℕ, Reference, Component, Global, Local, ResolvedTree, need, place, references, AreBelow, IsBelow, UsesFirst}
use Rattle.zf_shape.proofs.Greatest.{among_names, greatest_among}

-- ---- below a component

one_within : (r : Reference) (k : ℕ) → IsBelow k r → place r ≤ k
one_within (Component i) k h = omega arith
one_within (Local i) k h = omega arith
one_within (Global i) k h = omega arith

all_within : (rs : List Reference) (k : ℕ) → AreBelow k rs → greatest_among place rs ≤ k
all_within [] k h = omega arith
all_within (r ∷ rs) k h = omega (arith, one_within r k h.0, all_within rs k h.1)

one_below : (r : Reference) (k : ℕ) → place r ≤ k → IsBelow k r
one_below (Component i) k h = omega arith
one_below (Local i) k h = tt
one_below (Global i) k h = tt

all_below : (rs : List Reference) (k : ℕ) → greatest_among place rs ≤ k → AreBelow k rs
all_below [] k h = tt
all_below (r ∷ rs) k h = (one_below r k (omega arith), all_below rs k (omega arith))

pub uses_no_more : (t u : ResolvedTree) → need t ≤ need u → (k : ℕ) → UsesFirst k u → UsesFirst k t
uses_no_more t u l k h = all_below (references t) k (omega (arith, l, among_names place t, among_names place u, all_within (references u) k h))
