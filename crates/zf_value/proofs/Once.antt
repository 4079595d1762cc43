-- Each operation has one outcome at most.
use Rattle.zf_value.proofs.Prelude.{◌↔◌, ◌∙◌, ◌∷◌, ◌≡◌, ◌≤◌, [], ap, arith, Equal, Greater, inl, inr, length, Less, List, None, Option, Ordering, refl, Some, subst, sym, ℤ, ⊎_elim, ordering_reverse, IsNumber, OnNumber, OnNumbers, IsDifference, IsInterval, IsNegation, IsProduct, IsSum, IsAscending, IsMember, IsSetOf, value_order, SetOf, Value, Outcome, Is, Out, Undefined, total-law}
use Rattle.zf_value.specs.Operations as op
use Rattle.zf_value.proofs.Among.{every_at, not_below_itself}
use Rattle.zf_value.proofs.Exact.{exact}

abbrev pub HasOne : (Outcome → Type 0) → Type 0
HasOne P = (o p : Outcome) → P o → P p → o ≡ p

not_both : (x y : Value) → value_order x y ≡ Less → value_order y x ≡ Less → ⊥
not_both x y e f = let r = total-law.antisymm x y ∙ ap ordering_reverse f in (cc)

above : (x y : Value) → value_order x y ≡ Greater → value_order y x ≡ Less
above x y e = total-law.antisymm y x ∙ ap ordering_reverse e

-- the first of an ascending list is below each other member of a list that begins higher
not_among : (x y : Value) (ys : List Value) → IsAscending (y ∷ ys) → value_order x y ≡ Less → IsMember x (y ∷ ys) → ⊥
not_among x y ys h l m = ⊎_elim (λ s. not_below_itself x (subst (λ u. value_order x u ≡ Less) s l)) (λ n. not_both x y l (every_at (λ z. value_order y z ≡ Less) ys x h.0 n)) m

-- what is in the rest of one is in the rest of the other
in_rest : (x y z : Value) (xs ys : List Value) → IsAscending (x ∷ xs) → x ≡ y → (IsMember z (x ∷ xs) → IsMember z (y ∷ ys)) → IsMember z xs → IsMember z ys
in_rest x y z xs ys h e f m =
    let l = every_at (λ u. value_order x u ≡ Less) xs z h.0 m in
    ⊎_elim (λ s. absurd (not_below_itself x (subst (λ u. value_order x u ≡ Less) (sym (e ∙ s)) l))) (λ n. n) (f (inr m))

mutual_same : (x y : Value) (xs ys : List Value) → IsAscending (x ∷ xs) → IsAscending (y ∷ ys) → ((z : Value) → IsMember z (x ∷ xs) ↔ IsMember z (y ∷ ys))
    → (o : Ordering) → value_order x y ≡ o → x ≡ y
mutual_same x y xs ys h k f Less e = absurd (not_among x y ys k e ((f x).0 (inl refl)))
mutual_same x y xs ys h k f Equal e = exact x y e
mutual_same x y xs ys h k f Greater e = absurd (not_among y x xs h (above x y e) ((f y).1 (inl refl)))

-- ascending lists with the same members are one
pub one_list : (xs ys : List Value) → IsAscending xs → IsAscending ys → ((z : Value) → IsMember z xs ↔ IsMember z ys) → xs ≡ ys
one_list [] [] h k f = refl
one_list [] (y ∷ ys) h k f = absurd ((f y).1 (inl refl))
one_list (x ∷ xs) [] h k f = absurd ((f x).0 (inl refl))
one_list (x ∷ xs) (y ∷ ys) h k f =
    let e = mutual_same x y xs ys h k f (value_order x y) refl in
    let rest = one_list xs ys h.1 k.1 (λ z. (λ m. in_rest x y z xs ys h e (f z).0 m, λ m. in_rest y x z ys xs k (sym e) (f z).1 m)) in
    (cc)

-- an ascending list whose members another has is no longer
pub no_longer : (ys xs : List Value) → IsAscending ys → IsAscending xs → ((z : Value) → IsMember z xs → IsMember z ys) → length xs ≤ length ys
no_longer [] [] k h f = omega arith
no_longer [] (x ∷ xs) k h f = absurd (f x (inl refl))
no_longer (y ∷ ys) [] k h f = omega arith
no_longer (y ∷ ys) (x ∷ xs) k h f = at (value_order x y) refl (λ g. no_longer ys xs k.1 h.1 g) (λ g. no_longer ys (x ∷ xs) k.1 h g)
  where
    at : (o : Ordering) → value_order x y ≡ o → (((z : Value) → IsMember z xs → IsMember z ys) → length xs ≤ length ys)
        → (((z : Value) → IsMember z (x ∷ xs) → IsMember z ys) → length (x ∷ xs) ≤ length ys) → length (x ∷ xs) ≤ length (y ∷ ys)
    at Less e a b = absurd (not_among x y ys k e (f x (inl refl)))
    at Equal e a b = let q = a (λ z m. in_rest x y z xs ys h (exact x y e) (f z) m) in omega (arith, q)
    at Greater e a b =
        let q = b (λ z m. ⊎_elim (λ s. absurd (not_among y x xs h (above x y e) (subst (λ u. IsMember u (x ∷ xs)) (sym s) m))) (λ n. n) (f z m)) in omega (arith, q)

-- a test makes one set
pub one_set : (P : Value → Type 0) (o p : Outcome) → IsSetOf P o → IsSetOf P p → o ≡ p
one_set P (Is v) (Is w) h k =
    let same = one_list h.0 k.0 h.2 k.2 (λ z. (λ m. (k.4 z).1 ((h.4 z).0 m), λ m. (h.4 z).1 ((k.4 z).0 m))) in
    ap Is (h.1 ∙ ap SetOf same ∙ sym k.1)
one_set P (Is v) Out h k = let q = no_longer h.0 k.0 h.2 k.1 (λ z m. (h.4 z).1 (every_at P k.0 z k.3 m)) in absurd (omega (arith, q, k.2, h.3))
one_set P Out (Is v) k h = let q = no_longer h.0 k.0 h.2 k.1 (λ z m. (h.4 z).1 (every_at P k.0 z k.3 m)) in absurd (omega (arith, q, k.2, h.3))
one_set P Out Out h k = refl
one_set P Undefined p h k = absurd h
one_set P o Undefined h k = absurd k

pub one_number : (n : ℤ) (o p : Outcome) → IsNumber n o → IsNumber n p → o ≡ p
one_number n (Is v) (Is w) h k = ap Is (h.0 ∙ sym k.0)
one_number n (Is v) Out h k = absurd (k h.1)
one_number n Out (Is w) h k = absurd (h k.1)
one_number n Out Out h k = refl
one_number n Undefined p h k = absurd h
one_number n o Undefined h k = absurd k

pub one_Display : (a : List Value) → HasOne (op.IsDisplay a)
unfolding op.IsDisplay
one_Display a o p h k = one_set _ o p h k

pub one_Cross : (a : List Value) → HasOne (op.IsCross a)
unfolding op.IsCross
one_Cross a o p h k = one_set _ o p h k

pub one_Power : (a : List Value) → HasOne (op.IsPower a)
unfolding op.IsPower
one_Power a o p h k = one_set _ o p h k

pub one_Domain : (a : List Value) → HasOne (op.IsDomain a)
unfolding op.IsDomain
one_Domain a o p h k = one_set _ o p h k

pub one_Range : (a : List Value) → HasOne (op.IsRange a)
unfolding op.IsRange
one_Range a o p h k = one_set _ o p h k

pub one_Inverse : (a : List Value) → HasOne (op.IsInverse a)
unfolding op.IsInverse
one_Inverse a o p h k = one_set _ o p h k

pub one_Union : (a b : List Value) → HasOne (op.IsUnion a b)
unfolding op.IsUnion
one_Union a b o p h k = one_set _ o p h k

pub one_Intersection : (a b : List Value) → HasOne (op.IsIntersection a b)
unfolding op.IsIntersection
one_Intersection a b o p h k = one_set _ o p h k

pub one_SetDifference : (a b : List Value) → HasOne (op.IsSetDifference a b)
unfolding op.IsSetDifference
one_SetDifference a b o p h k = one_set _ o p h k

pub one_Image : (a b : List Value) → HasOne (op.IsImage a b)
unfolding op.IsImage
one_Image a b o p h k = one_set _ o p h k

pub one_Composition : (a b : List Value) → HasOne (op.IsComposition a b)
unfolding op.IsComposition
one_Composition a b o p h k = one_set _ o p h k

pub one_Overriding : (a b : List Value) → HasOne (op.IsOverriding a b)
unfolding op.IsOverriding
one_Overriding a b o p h k = one_set _ o p h k

pub one_DomainRestriction : (a b : List Value) → HasOne (op.IsDomainRestriction a b)
unfolding op.IsDomainRestriction
one_DomainRestriction a b o p h k = one_set _ o p h k

pub one_DomainSubtraction : (a b : List Value) → HasOne (op.IsDomainSubtraction a b)
unfolding op.IsDomainSubtraction
one_DomainSubtraction a b o p h k = one_set _ o p h k

pub one_RangeRestriction : (a b : List Value) → HasOne (op.IsRangeRestriction a b)
unfolding op.IsRangeRestriction
one_RangeRestriction a b o p h k = one_set _ o p h k

pub one_RangeSubtraction : (a b : List Value) → HasOne (op.IsRangeSubtraction a b)
unfolding op.IsRangeSubtraction
one_RangeSubtraction a b o p h k = one_set _ o p h k

pub one_Size : (a : List Value) → HasOne (op.IsSize a)
unfolding op.IsSize
one_Size a o p h k = one_number _ o p h k

pub one_Negation : (a : ℤ) → HasOne (IsNegation a)
unfolding IsNegation
one_Negation a o p h k = one_number _ o p h k

pub one_Sum : (a b : ℤ) → HasOne (IsSum a b)
unfolding IsSum
one_Sum a b o p h k = one_number _ o p h k

pub one_Difference : (a b : ℤ) → HasOne (IsDifference a b)
unfolding IsDifference
one_Difference a b o p h k = one_number _ o p h k

pub one_Product : (a b : ℤ) → HasOne (IsProduct a b)
unfolding IsProduct
one_Product a b o p h k = one_number _ o p h k

pub one_Interval : (a b : ℤ) → HasOne (IsInterval a b)
unfolding IsInterval
one_Interval a b o p h k = one_set _ o p h k

pub one_on_number : (x : Option ℤ) (P : ℤ → Outcome → Type 0) → ((a : ℤ) → HasOne (P a)) → HasOne (OnNumber x P)
one_on_number (Some a) P f o p h k = f a o p h k
one_on_number None P f o p h k = h ∙ sym k

pub one_on_numbers : (x y : Option ℤ) (P : ℤ → ℤ → Outcome → Type 0) → ((a b : ℤ) → HasOne (P a b)) → HasOne (OnNumbers x y P)
one_on_numbers (Some a) (Some b) P f o p h k = f a b o p h k
one_on_numbers (Some a) None P f o p h k = h ∙ sym k
one_on_numbers None y P f o p h k = h ∙ sym k

pub one_Applied : (f : List Value) (x : Value) → HasOne (op.IsApplied f x)
unfolding op.IsApplied
one_Applied f x (Is v) (Is w) h k = ap Is (k.1 v h.0)
one_Applied f x (Is v) Undefined h k = absurd (k v h)
one_Applied f x Undefined (Is w) h k = absurd (h w k)
one_Applied f x Undefined Undefined h k = refl
one_Applied f x Out p h k = absurd h
one_Applied f x o Out h k = absurd k
