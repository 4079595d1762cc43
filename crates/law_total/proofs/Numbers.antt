-- Numbers: each operation on them has an outcome.
use Rattle.law_total.proofs.Prelude.{◌^◌, ◌≡◌, ◌⊎◌, arith, inl, inr, None, Option, refl, Some, suc, sym, zero, ℕ, ℤ, ⊎_elim, cases_lt, ◌+ℤ◌, ◌-ℤ◌, ◌<ℤ◌, ◌≤ℤ◌, FitsSigned, neg_ℤ, negsuc, pos, is_Int, no_Int, Outcome, Is, Out, Undefined, Int, Value}
use Rattle.std.specs.Int.{w64, Width}
use Rattle.std.specs.Int.RustNames.{int_div, int_rem}
use Rattle.std.proofs.lemmas.Int.{ints, by_lt_z}
use mir.Val.{hbits}
use Rattle.zf_value.specs.{IsBetweenNumbers, IsDifference, IsDivision, IsInterval, IsModulus, IsNegation, IsNumber, IsProduct, IsQuotient, IsSum, number_of, OnNumber, OnNumbers}
use Rattle.zf_value.proofs.Divisions.{down, up}
use Rattle.law_total.proofs.Listed.{HasSome, Decided, decided_both, decided_either, Listed, listed_same, listed_none, listed_one, listed_either, listed_image}
use Rattle.law_total.proofs.Sets.{set_of}

-- ---- what is decided

pub decided_fits : (w : Width) (n : ℤ) → Decided (FitsSigned w n)
decided_fits w (pos n) = elim (cases_lt n (2 ^ hbits w)) [ inl l ↦ inl (record { sfits = l }) | inr l ↦ inr (λ f. omega (arith, f.sfits)) ]
decided_fits w (negsuc n) = elim (cases_lt n (2 ^ hbits w)) [ inl l ↦ inl (record { sfits = l }) | inr l ↦ inr (λ f. omega (arith, f.sfits)) ]

pub decided_below : (a b : ℤ) → Decided (a <ℤ b)
decided_below a b = by_lt_z a b (λ l. inl l) (λ m. inr (λ l. omega (arith, ints, l, m)))

pub decided_at_most : (a b : ℤ) → Decided (a ≤ℤ b)
decided_at_most a b = by_lt_z b a (λ l. inr (λ m. omega (arith, ints, l, m))) (λ m. inl m)

same_number : (a b : ℤ) → Decided (a ≡ b)
same_number a b = by_lt_z a b (λ l. inr (λ e. omega (arith, ints, l, e))) (λ m. by_lt_z b a (λ l. inr (λ e. omega (arith, ints, l, e))) (λ n. inl (omega (arith, ints, m, n))))

-- ---- outcomes

pub some_number : (n : ℤ) → HasSome (IsNumber n)
some_number n = ⊎_elim (λ f. (Is (Int n), (refl, f))) (λ f. (Out, f)) (decided_fits w64 n)

pub some_negation : (a : ℤ) → HasSome (IsNegation a)
unfolding IsNegation
some_negation a = some_number (neg_ℤ a)

pub some_sum : (a b : ℤ) → HasSome (IsSum a b)
unfolding IsSum
some_sum a b = some_number _

pub some_difference : (a b : ℤ) → HasSome (IsDifference a b)
unfolding IsDifference
some_difference a b = some_number _

pub some_product : (a b : ℤ) → HasSome (IsProduct a b)
unfolding IsProduct
some_product a b = some_number _

divided : (a b : ℤ) → (b ≡ pos 0 → ⊥) → (q r : ℤ) × IsDivision a b q r
divided a b n =
    ⊎_elim (λ h. (int_div a b, int_rem a b, down a b h)) (λ h. (int_div a b -ℤ pos 1, int_rem a b +ℤ b, up a b n h))
    (decided_either (decided_both (decided_at_most (pos 0) (int_rem a b)) (decided_below (int_rem a b) b)) (decided_both (decided_below b (int_rem a b)) (decided_at_most (int_rem a b) (pos 0))))

pub some_quotient : (a b : ℤ) → HasSome (IsQuotient a b)
unfolding IsQuotient
some_quotient a b = elim (same_number b (pos 0)) [
  | inl e ↦ (Undefined, inl (e, refl))
  | inr n ↦ let d = divided a b n in let s = some_number d.0 in (s.0, inr (d.0, d.1, d.2, s.1))
]

pub some_modulus : (a b : ℤ) → HasSome (IsModulus a b)
unfolding IsModulus
some_modulus a b = elim (same_number b (pos 0)) [
  | inl e ↦ (Undefined, inl (e, refl))
  | inr n ↦ let d = divided a b n in let s = some_number d.1 in (s.0, inr (d.0, d.1, d.2, s.1))
]

-- ---- intervals

last_or_before : (a n : ℤ) (k : ℕ) → n <ℤ (a +ℤ pos (suc k)) → (n <ℤ (a +ℤ pos k)) ⊎ (a +ℤ pos k ≡ n)
last_or_before a n k l = by_lt_z n (a +ℤ pos k) (λ m. inl m) (λ m. inr (omega (arith, ints, l, m)))

-- so many numbers from a on
listed_from : (a : ℤ) (k : ℕ) → Listed (λ n. (a ≤ℤ n) × (n <ℤ (a +ℤ pos k)))
listed_from a zero = listed_none (λ n. (a ≤ℤ n) × (n <ℤ (a +ℤ pos zero))) (λ n h. omega (arith, ints, h.0, h.1))
listed_from a (suc k) = listed_same (listed_either (listed_from a k) (listed_one (a +ℤ pos k))) (λ n. (
  λ h. ⊎_elim (λ m. (m.0, omega (arith, ints, m.1))) (λ e. (omega (arith, ints, e), omega (arith, ints, e))) h,
  λ h. ⊎_elim (λ m. inl (h.0, m)) (λ e. inr e) (last_or_before a n k h.1),
))

apart : (a b d : ℤ) → a ≤ℤ b → d ≡ b -ℤ a → (k : ℕ) × (b +ℤ pos 1 ≡ a +ℤ pos k)
apart a b (pos k) l e = (suc k, omega (arith, ints, e))
apart a b (negsuc k) l e = absurd (omega (arith, ints, e, l))

listed_between : (a b : ℤ) → Listed (λ n. (a ≤ℤ n) × (n ≤ℤ b))
listed_between a b = elim (decided_at_most a b) [
  | inl l ↦ let k = apart a b (b -ℤ a) l refl in let e = k.1 in listed_same (listed_from a k.0) (λ n. (λ h. (h.0, omega (arith, ints, e, h.1)), λ h. (h.0, omega (arith, ints, e, h.1))))
  | inr f ↦ listed_none (λ n. (a ≤ℤ n) × (n ≤ℤ b)) (λ n h. f (omega (arith, ints, h.0, h.1)))
]

pub some_interval : (a b : ℤ) → HasSome (IsInterval a b)
unfolding IsInterval IsBetweenNumbers
some_interval a b = set_of (listed_same (listed_image (λ n. Int n) (listed_between a b)) (λ z. (λ h. (h.0, sym h.2, h.1.0, h.1.1), λ h. (h.0, (h.2, h.3), sym h.1))))

-- ---- of values

pub some_on_number : (x : Option ℤ) (P : ℤ → Outcome → Type 0) → ((a : ℤ) → HasSome (P a)) → HasSome (OnNumber x P)
some_on_number None P f = (Undefined, refl)
some_on_number (Some a) P f = f a

pub some_on_numbers : (x y : Option ℤ) (P : ℤ → ℤ → Outcome → Type 0) → ((a b : ℤ) → HasSome (P a b)) → HasSome (OnNumbers x y P)
some_on_numbers None y P f = (Undefined, refl)
some_on_numbers (Some a) None P f = (Undefined, refl)
some_on_numbers (Some a) (Some b) P f = f a b

-- ---- comparisons

-- a value is a number, or none
pub number_or_not : (v : Value) → Decided ((n : ℤ) × (v ≡ Int n))
number_or_not v = at (number_of v) refl
  where
    at : (x : Option ℤ) → x ≡ number_of v → Decided ((n : ℤ) × (v ≡ Int n))
    at None e = inr (λ h. no_Int v h.0 e h.1)
    at (Some n) e = inl (n, is_Int v n e)
