-- Sets: what a list has is a set, or is out.
use Rattle.law_total.proofs.Prelude.{◌+◌, ◌↔◌, ◌∷◌, ◌≡◌, ◌≤◌, ◌⊎◌, [], ap, arith, inl, inr, length, length-take, Less, List, refl, subst, sym, take, ℕ, ⊎_elim, cases_lt, AllPairs, AllPairs-head, AllPairs-tail, ascending-take, contained, every-take, every_at, every_from, member, not_below_itself, exact, IsAscending, IsMember, IsSetOf, value_order, AreAmong, SET_MAX, Is, Out, SetOf, Value, AllByRecursion, total-law}
use Rattle.law_total.proofs.Listed.{HasSome, Listed, listed_same, listed_one, listed_either, listed_image}
use Rattle.law_total.proofs.Orders.{in_order}
use Rattle.law_total.proofs.Values.{same_value}

-- ---- in order

-- the ascending list of those of which P holds
pub record Ordered (P : Value → Type 0) : Type 0 where
  pub list : List Value
  pub ascending : IsAscending list
  pub members : (z : Value) → IsMember z list ↔ P z

ascending_from : (xs : List Value) → AllPairs (λ x y. value_order x y ≡ Less) xs → IsAscending xs
ascending_from [] h = tt
ascending_from (x ∷ xs) h = (
  every_from (λ y. value_order x y ≡ Less) xs (λ y m. AllPairs-head (λ x y. value_order x y ≡ Less) x xs h y (contained xs y m)),
  ascending_from xs (AllPairs-tail (λ x y. value_order x y ≡ Less) x xs h),
)

pub ordered : {P : Value → Type 0} → Listed P → Ordered P
ordered h =
    let o = in_order value_order total-law exact h in
    record { list = o.list; ascending = ascending_from o.list o.ascending; members = λ z. (λ m. (o.members z).0 (contained o.list z m), λ p. member o.list z ((o.members z).1 p)) }

-- ---- sets

-- a list is no longer than the limit, or its front is one longer
pub front : (P : Value → Type 0) (n : ℕ) (xs : List Value) → IsAscending xs → AllByRecursion P xs → (length xs ≤ n) ⊎ ((ys : List Value) × IsAscending ys × (length ys ≡ n + 1) × AllByRecursion P ys)
front P n xs h e = elim (cases_lt n (length xs)) [
  | inl l ↦ inr (take (n + 1) xs, ascending-take (n + 1) xs h, omega (arith, length-take (n + 1) xs), every-take P (n + 1) xs e)
  | inr l ↦ inl l
]

-- what a list has is a set, or is out
pub set_of : {P : Value → Type 0} → Listed P → HasSome (IsSetOf P)
set_of {P} h =
    let o = ordered h in
    ⊎_elim (λ l. (Is (SetOf o.list), (o.list, refl, o.ascending, l, o.members))) (λ f. (Out, f))
    (front P SET_MAX o.list o.ascending (every_from P o.list (λ z m. (o.members z).0 m)))

-- ---- sets of members of others

above_first : (u x : Value) (us : List Value) → IsAscending (u ∷ us) → (u ≡ x → ⊥) → IsMember x (u ∷ us) → value_order u x ≡ Less
above_first u x us h n m = ⊎_elim (λ s. absurd (n s)) (λ k. every_at (λ z. value_order u z ≡ Less) us x h.0 k) m

not_first : (u z : Value) (us : List Value) → value_order u z ≡ Less → IsMember z (u ∷ us) → IsMember z us
not_first u z us l m = ⊎_elim (λ s. absurd (not_below_itself u (subst (λ v. value_order u v ≡ Less) (sym s) l))) (λ n. n) m

abbrev IsPart : List Value → List Value → Type 0
IsPart us xs = IsAscending xs × AreAmong xs us

part_with : (u : Value) (us xs : List Value) → IsAscending (u ∷ us) → ((ys : List Value) × IsPart us ys × (u ∷ ys ≡ xs)) → IsPart (u ∷ us) xs
unfolding AreAmong
part_with u us xs h p = subst (λ zs. IsPart (u ∷ us) zs) p.2 (
  (every_from (λ z. value_order u z ≡ Less) p.0 (λ z m. every_at (λ v. value_order u v ≡ Less) us z h.0 (p.1.1 z m)), p.1.0),
  λ z m. ⊎_elim (λ s. inl s) (λ n. inr (p.1.1 z n)) m,
)

part_of : (u : Value) (us xs : List Value) → IsAscending (u ∷ us) → IsPart (u ∷ us) xs → IsPart us xs ⊎ ((ys : List Value) × IsPart us ys × (u ∷ ys ≡ xs))
unfolding AreAmong
part_of u us [] h p = inl (tt, λ z m. absurd m)
part_of u us (x ∷ xs) h p = elim (same_value u x) [
  | inl e ↦ inr (xs, (p.0.1, λ z m. not_first u z us (subst (λ v. value_order v z ≡ Less) (sym e) (every_at (λ v. value_order x v ≡ Less) xs z p.0.0 m)) (p.1 z (inr m))), ap (λ v. v ∷ xs) e)
  | inr n ↦ let l = above_first u x us h n (p.1 x (inl refl)) in
      inl (p.0, λ z m. not_first u z us (⊎_elim (λ s. subst (λ v. value_order u v ≡ Less) s l) (λ k. total-law.trans u x z l (every_at (λ v. value_order x v ≡ Less) xs z p.0.0 k)) m) (p.1 z m))
]

parts_of : (us : List Value) → IsAscending us → Listed (λ xs. IsAscending xs × AreAmong xs us)
unfolding AreAmong
parts_of [] h = listed_same (listed_one []) (λ xs. none xs)
  where
    none : (xs : List Value) → ([] ≡ xs) ↔ IsPart [] xs
    none [] = (λ e. (tt, λ z m. absurd m), λ p. refl)
    none (x ∷ xs) = (λ e. absurd (cc), λ p. absurd (p.1 x (inl refl)))
parts_of (u ∷ us) h =
    let rest = parts_of us h.1 in
    listed_same (listed_either rest (listed_image (λ ys. u ∷ ys) rest)) (λ xs. (
      λ p. ⊎_elim (λ a. (a.0, λ z m. inr (a.1 z m))) (λ b. part_with u us xs h b) p,
      λ p. part_of u us xs h p,
    ))

-- the ascending lists of some of those of which P holds
pub listed_parts : {P : Value → Type 0} → Listed P → Listed (λ xs. IsAscending xs × ((z : Value) → IsMember z xs → P z))
unfolding AreAmong
listed_parts h =
    let o = ordered h in
    listed_same (parts_of o.list o.ascending) (λ xs. (λ p. (p.0, λ z m. (o.members z).0 (p.1 z m)), λ p. (p.0, λ z m. (o.members z).1 (p.1 z m))))
