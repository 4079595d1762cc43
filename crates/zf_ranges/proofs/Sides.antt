-- Several declared sets, one after another, and the two sides of a disjunction.
use Rattle.zf_ranges.proofs.Prelude.{◌+◌, ◌-◌, ◌<◌, ◌↔◌, ◌∙◌, ◌∷◌, ◌≡◌, ◌≤◌, ◌⊎◌, [], add-one, ap, arith, drop, get_or, inl, inr, length, List, map, Option, refl, subst, suc, sym, take, true, zero, ℕ, ⊎_elim, and_parts, length-drop, IsMember, Value, of-Either, DeclaredSet, DeclaredSets, Defined, set_of, sets_of, sides, Domain, bounds, one_bounds, Environment, IsInSet, IsInSets, IsOneOut, IsSetOut, IsAllOf, IsAllOfEach, Lists, Narrows, NarrowsAll}
use Rattle.zf_term.specs.declared.schema.Domain.TheVariants as domain
use Rattle.zf_ranges.proofs.Listing.{lists_same}

abbrev pub front : ℕ → List Domain → DeclaredSets
front i xs = sets_of (map set_of (take i xs))

abbrev pub back : ℕ → List Domain → DeclaredSets
back i xs = sets_of (map set_of (drop i xs))

abbrev pub whole : List Domain → DeclaredSets
whole xs = sets_of (map set_of xs)

-- ---- one more

in_next : (e : Environment) (xs : List Domain) (i : ℕ) (x : Domain) → x ≡ get_or xs i x → i < length xs → (v : Value)
    → IsInSets e (front (suc i) xs) v ↔ (IsInSets e (front i xs) v × IsInSet e (set_of x) v)
in_next e [] i x at l v = absurd (omega arith)
in_next e (y ∷ ys) zero x at l v = (λ h. (tt, subst (λ z. IsInSet e (set_of z) v) (sym at) h.0), λ h. (subst (λ z. IsInSet e (set_of z) v) at h.1, tt))
in_next e (y ∷ ys) (suc i) x at l v =
    let rest = in_next e ys i x at (omega arith) v in
    (λ h. let k = rest.0 h.1 in ((h.0, k.0), k.1), λ h. (h.0.0, rest.1 (h.0.1, h.1)))

out_next : (e : Environment) (xs : List Domain) (i : ℕ) (x : Domain) → x ≡ get_or xs i x → i < length xs → IsOneOut e (front (suc i) xs) → IsOneOut e (front i xs) ⊎ IsSetOut e (set_of x)
out_next e [] i x at l h = absurd (omega arith)
out_next e (y ∷ ys) zero x at l h = ⊎_elim (λ k. inr (subst (λ z. IsSetOut e (set_of z)) (sym at) k)) (λ k. absurd k) h
out_next e (y ∷ ys) (suc i) x at l h = ⊎_elim (λ k. inl (inl k)) (λ k. ⊎_elim (λ m. inl (inr m)) (λ m. inr m) (out_next e ys i x at (omega arith) k)) h

pub out_at : (e : Environment) (xs : List Domain) (i : ℕ) (x : Domain) → x ≡ get_or xs i x → i < length xs → IsSetOut e (set_of x) → IsOneOut e (whole xs)
out_at e [] i x at l h = absurd (omega arith)
out_at e (y ∷ ys) zero x at l h = inl (subst (λ z. IsSetOut e (set_of z)) at h)
out_at e (y ∷ ys) (suc i) x at l h = inr (out_at e ys i x at (omega arith) h)

next : (e : Environment) (xs : List Domain) (i : ℕ) (x : Domain) (vs found new : List Value) → x ≡ get_or xs i x → i < length xs
    → NarrowsAll e (front i xs) vs found → Narrows e (set_of x) found new → NarrowsAll e (front (suc i) xs) vs new
next e xs i x vs found new at l h k = (
  lists_same (λ v. IsMember v found × IsInSet e (set_of x) v) (λ v. IsMember v vs × IsInSets e (front (suc i) xs) v) new
      (λ v. (
        λ m. let a = (h.0.members v).0 m.0 in (a.0, (in_next e xs i x at l v).1 (a.1, m.1)),
        λ m. let b = (in_next e xs i x at l v).0 m.1 in ((h.0.members v).1 (m.0, b.0), b.1),
      )) k.0,
  λ o. ⊎_elim h.1 k.1 (out_next e xs i x at l o),
)

pub narrows_next : (e : Environment) (xs : List Domain) (i : ℕ) (x : Domain) (vs found new : List Value) → x ≡ get_or xs i x → i < length xs
    → NarrowsAll e (front i xs) vs found → Narrows e (set_of x) found new → NarrowsAll e (front (i + 1) xs) vs new
narrows_next e xs i x vs found new at l h k = rw add-one (next e xs i x vs found new at l h k)

all_taken : (xs : List Domain) (i : ℕ) → length xs ≤ i → take i xs ≡ xs
all_taken [] zero l = refl
all_taken [] (suc i) l = refl
all_taken (x ∷ xs) zero l = absurd (omega arith)
all_taken (x ∷ xs) (suc i) l = ap (λ ys. x ∷ ys) (all_taken xs i (omega arith))

-- ---- before, at and after a place

-- the slice after a place
pub rest : (xs : List Domain) (i : ℕ) → take (length xs - (i + 1)) (drop (i + 1) xs) ≡ drop (suc i) xs
rest xs i = rw add-one (all_taken (drop (suc i) xs) (length xs - suc i) (omega (arith, length-drop (suc i) xs)))

in_parts : (e : Environment) (xs : List Domain) (i : ℕ) (x : Domain) → x ≡ get_or xs i x → i < length xs → (v : Value)
    → IsInSets e (whole xs) v ↔ ((IsInSet e (set_of x) v × IsInSets e (front i xs) v) × IsInSets e (back (suc i) xs) v)
in_parts e [] i x at l v = absurd (omega arith)
in_parts e (y ∷ ys) zero x at l v = (λ h. ((subst (λ z. IsInSet e (set_of z) v) (sym at) h.0, tt), h.1), λ h. (subst (λ z. IsInSet e (set_of z) v) at h.0.0, h.1))
in_parts e (y ∷ ys) (suc i) x at l v =
    let rest = in_parts e ys i x at (omega arith) v in
    (λ h. let k = rest.0 h.1 in ((k.0.0, (h.0, k.0.1)), k.1), λ h. (h.0.1.0, rest.1 ((h.0.0, h.0.1.1), h.1)))

out_parts : (e : Environment) (xs : List Domain) (i : ℕ) (x : Domain) → x ≡ get_or xs i x → i < length xs → IsOneOut e (whole xs)
    → IsSetOut e (set_of x) ⊎ (IsOneOut e (front i xs) ⊎ IsOneOut e (back (suc i) xs))
out_parts e [] i x at l h = absurd (omega arith)
out_parts e (y ∷ ys) zero x at l h = ⊎_elim (λ k. inl (subst (λ z. IsSetOut e (set_of z)) (sym at) k)) (λ k. inr (inr k)) h
out_parts e (y ∷ ys) (suc i) x at l h = ⊎_elim (λ k. inr (inl (inl k))) (λ k. ⊎_elim (λ m. inl m) (λ m. ⊎_elim (λ n. inr (inl (inr n))) (λ n. inr (inr n)) m) (out_parts e ys i x at (omega arith) k)) h

pub out_before : (e : Environment) (xs : List Domain) (i : ℕ) → IsOneOut e (front i xs) → IsOneOut e (whole xs)
out_before e [] zero h = absurd h
out_before e [] (suc i) h = absurd h
out_before e (y ∷ ys) zero h = absurd h
out_before e (y ∷ ys) (suc i) h = ⊎_elim (λ k. inl k) (λ k. inr (out_before e ys i k)) h

pub out_behind : (e : Environment) (xs : List Domain) (i : ℕ) → IsOneOut e (back i xs) → IsOneOut e (whole xs)
out_behind e [] zero h = h
out_behind e [] (suc i) h = absurd h
out_behind e (y ∷ ys) zero h = h
out_behind e (y ∷ ys) (suc i) h = inr (out_behind e ys i h)

pub all_of_each : (e : Environment) (xs : List Domain) (i : ℕ) (x : Domain) (ls ms ns : List Value) → x ≡ get_or xs i x → i < length xs
    → IsAllOf e (set_of x) ls → NarrowsAll e (front i xs) ls ms → NarrowsAll e (back (suc i) xs) ms ns → IsAllOfEach e (whole xs) ns
all_of_each e xs i x ls ms ns at l h k m = (
  lists_same (λ v. IsMember v ms × IsInSets e (back (suc i) xs) v) (IsInSets e (whole xs)) ns
      (λ v. (
        λ n. let a = (k.0.members v).0 n.0 in (in_parts e xs i x at l v).1 (((h.0.members v).0 a.0, a.1), n.1),
        λ n. let p = (in_parts e xs i x at l v).0 n in ((k.0.members v).1 ((h.0.members v).1 p.0.0, p.0.1), p.1),
      )) m.0,
  λ o. ⊎_elim h.1 (λ p. ⊎_elim k.1 m.1 p) (out_parts e xs i x at l o),
)

-- ---- both sides

either : (e : Environment) (left right : DeclaredSets) → (IsOneOut e left → ⊥) → (IsOneOut e right → ⊥) → IsSetOut e (sides left right) → ⊥
either e left right h k o = ⊎_elim h k o

pub all_of_sides : (e : Environment) (left right : DeclaredSets) (ls ms ns : List Value) → IsAllOfEach e left ls → IsAllOfEach e right ms
    → Lists (λ v. IsMember v ls ⊎ IsMember v ms) ns → IsAllOf e (sides left right) ns
all_of_sides e left right ls ms ns h k m = (
  lists_same (λ v. IsMember v ls ⊎ IsMember v ms) (IsInSet e (sides left right)) ns
      (λ v. (λ n. ⊎_elim (λ p. inl ((h.0.members v).0 p)) (λ p. inr ((k.0.members v).0 p)) n, λ n. ⊎_elim (λ p. inl ((h.0.members v).1 p)) (λ p. inr ((k.0.members v).1 p)) n)) m,
  either e left right h.1 k.1,
)

pub some_of_sides : (e : Environment) (left right : DeclaredSets) (vs ls ms ns : List Value) → NarrowsAll e left vs ls → NarrowsAll e right vs ms
    → Lists (λ v. IsMember v ls ⊎ IsMember v ms) ns → Narrows e (sides left right) vs ns
some_of_sides e left right vs ls ms ns h k m = (
  lists_same (λ v. IsMember v ls ⊎ IsMember v ms) (λ v. IsMember v vs × IsInSet e (sides left right) v) ns
      (λ v. (
        λ n. ⊎_elim (λ p. let a = (h.0.members v).0 p in (a.0, inl a.1)) (λ p. let a = (k.0.members v).0 p in (a.0, inr a.1)) n,
        λ n. ⊎_elim (λ p. inl ((h.0.members v).1 (n.0, p))) (λ p. inr ((k.0.members v).1 (n.0, p))) n.1,
      )) m,
  either e left right h.1 k.1,
)

-- where a disjunction bounds, both of its sides do
pub sides_bound : (n : Option ℕ) (g : List Defined) (d : Domain) (left right : List Domain) → d ≡ domain.Either left right → bounds n g (set_of d) ≡ true
    → (one_bounds n g (sets_of (map set_of left)) ≡ true) × (one_bounds n g (sets_of (map set_of right)) ≡ true)
sides_bound n g d left right is b =
    and_parts (one_bounds n g (sets_of (map set_of left))) (one_bounds n g (sets_of (map set_of right))) (subst (λ (s : DeclaredSet). bounds n g s ≡ true) (ap set_of is ∙ of-Either left right) b)
