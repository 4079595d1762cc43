-- The last component up to a place that a term names tells what is due, and whether a component is used.
use Rattle.zf_enum.proofs.Prelude.{◌+◌, ◌<◌, ◌∙◌, ◌∷◌, ◌≡◌, ◌≤◌, ◌⊎◌, [], ap, arith, Bool, cond, eqb, false, inl, inr, List, max, refl, sym, true, ℕ, ⊎_elim, eqb-true, false≢true, nat_le, Reference, Component, Global, Local, reference, ResolvedTree, references, need, place_up_to, due, greatest_place, is_among, is_component, place_named, uses}
use Rattle.zf_shape.proofs.Greatest.{among_names, greatest_among}
use Rattle.std.proofs.lemmas.Bool.Decides.{nat_tests}

-- the greatest place up to m, from 1, of a component among the references
abbrev greatest_up_to : ℕ → List Reference → ℕ
greatest_up_to m = greatest_among (place_up_to m)

up_to : (m : ℕ) (t : ResolvedTree) → need m t ≡ greatest_up_to m (references t)
up_to m = among_names (place_up_to m)

-- ---- up to a place beyond all components

whole_place : (m i : ℕ) → i + 1 ≤ m + 1 → cond (nat_le i m) (i + 1) 0 ≡ i + 1
whole_place m i h = grind (arith, nat_tests)

named_up_to : (m : ℕ) (r : Reference) → place_named r ≤ m + 1 → place_up_to m r ≡ place_named r
named_up_to m (Component i) h = whole_place m i h
named_up_to m (Local i) h = refl
named_up_to m (Global i) h = refl

all_up_to : (m : ℕ) (rs : List Reference) → greatest_place rs ≤ m + 1 → greatest_up_to m rs ≡ greatest_place rs
all_up_to m [] h = refl
all_up_to m (r ∷ rs) h = omega (arith, named_up_to m r (omega arith), all_up_to m rs (omega arith))

pub due_need : (m : ℕ) (t : ResolvedTree) → due t ≤ m + 1 → need m t ≡ due t
due_need m t h = up_to m t ∙ all_up_to m (references t) h

-- ---- up to a component

small_place : (k i : ℕ) → cond (nat_le i k) (i + 1) 0 ≤ k + 1
small_place k i = grind (arith, nat_tests)

one_at_most : (k : ℕ) (r : Reference) → place_up_to k r ≤ k + 1
one_at_most k (Component i) = small_place k i
one_at_most k (Local i) = omega arith
one_at_most k (Global i) = omega arith

all_at_most : (k : ℕ) (rs : List Reference) → greatest_up_to k rs ≤ k + 1
all_at_most k [] = omega arith
all_at_most k (r ∷ rs) = omega (arith, one_at_most k r, all_at_most k rs)

not_none : (k : ℕ) → eqb 0 (k + 1) ≡ false
not_none k = grind (arith, nat_tests)

next_place : (i k : ℕ) → eqb (i + 1) (k + 1) ≡ eqb i k
next_place i k = grind (arith, nat_tests)

last_place : (k i : ℕ) → eqb i k ≡ eqb (cond (nat_le i k) (i + 1) 0) (k + 1)
last_place k i = grind (arith, nat_tests)

-- a reference is component k where the last one up to k is there
one_is_last : (k : ℕ) (r : Reference) → is_component k r ≡ eqb (place_up_to k r) (k + 1)
one_is_last k (Component i) = last_place k i
one_is_last k (Local i) = sym (not_none k)
one_is_last k (Global i) = sym (not_none k)

either_last : (k a b : ℕ) → a ≤ k + 1 → b ≤ k + 1 → cond (eqb a (k + 1)) true (eqb b (k + 1)) ≡ eqb (max a b) (k + 1)
either_last k a b h j = grind (arith, nat_tests)

is_last : (k : ℕ) (rs : List Reference) → is_among k rs ≡ eqb (greatest_up_to k rs) (k + 1)
is_last k [] = sym (not_none k)
is_last k (r ∷ rs) =
    ap (λ b. cond b true (is_among k rs)) (one_is_last k r) ∙ ap (cond (eqb (place_up_to k r) (k + 1)) true) (is_last k rs)
    ∙ either_last k (place_up_to k r) (greatest_up_to k rs) (one_at_most k r) (all_at_most k rs)

uses_last : (t : ResolvedTree) (k : ℕ) → uses t k ≡ eqb (need k t) (k + 1)
uses_last t k = is_last k (references t) ∙ ap (λ n. eqb n (k + 1)) (sym (up_to k t))

pub uses_none : (t : ResolvedTree) (k : ℕ) → need k t ≡ 0 → uses t k ≡ false
uses_none t k e = uses_last t k ∙ ap (λ n. eqb n (k + 1)) e ∙ not_none k

pub uses_found : (t : ResolvedTree) (k i : ℕ) → need k t ≡ i + 1 → uses t k ≡ eqb i k
uses_found t k i e = uses_last t k ∙ ap (λ n. eqb n (k + 1)) e ∙ next_place i k

pub either_true : (b c : Bool) → cond b true c ≡ true → (b ≡ true) ⊎ (c ≡ true)
either_true true c e = inl refl
either_true false c e = inr e

place_reached : (k m : ℕ) → k ≤ m → cond (nat_le k m) (k + 1) 0 ≡ k + 1
place_reached k m l = grind (arith, nat_tests)

one_reached : (k m : ℕ) (r : Reference) → k ≤ m → is_component k r ≡ true → place_up_to m r ≡ k + 1
one_reached k m (Component i) l e = ap (λ n. cond (nat_le n m) (n + 1) 0) (eqb-true i k e) ∙ place_reached k m l
one_reached k m (Local i) l e = absurd (false≢true e)
one_reached k m (Global i) l e = absurd (false≢true e)

all_reached : (k m : ℕ) (rs : List Reference) → k ≤ m → is_among k rs ≡ true → k < greatest_up_to m rs
all_reached k m [] l e = absurd (false≢true e)
all_reached k m (r ∷ rs) l e =
    ⊎_elim (λ a. let p = one_reached k m r l a in omega (arith, p)) (λ a. let p = all_reached k m rs l a in omega (arith, p)) (either_true (is_component k r) (is_among k rs) e)

-- a component that is used is not after the last one up to a later place
pub used_up_to : (t : ResolvedTree) (k m : ℕ) → k ≤ m → uses t k ≡ true → k < need m t
used_up_to t k m l e = let p = all_reached k m (references t) l e in omega (arith, p, up_to m t)
