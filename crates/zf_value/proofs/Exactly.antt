-- Numbers of 64 bits, or out.
use Rattle.zf_value.proofs.Prelude.{◌∙◌, ◌≡◌, ap, arith, inr, None, of_z, Option, refl, Some, subst, suc, sym, to_z, zero, ℕ, ℤ, ⊎_elim, ints, to_z-of_z, int_div, int_rem, SomeIff, ◌*ℤ◌, ◌+ℤ◌, ◌-ℤ◌, ◌≤ℤ◌, FitsSigned, MatchOption, neg_ℤ, negsuc, pos, IsDivision, IsNumber, IsRemainder, IsModulus, IsNegation, IsQuotient, SET_MAX, Int, Outcome, Is, Out}
use Rattle.std.specs.Int.{w64}
use Rattle.zf_value.proofs.Divisions.{down, up}

pub is_number : (m n : ℤ) → m ≡ n → FitsSigned w64 n → IsNumber n (Is (Int m))
is_number m n e f = (ap Int e, f)

-- ---- what a checked operation answers

pub checked : (z y : ℤ) (r : Option ℤ) (o : Outcome) → y ≡ z → SomeIff r (FitsSigned w64 y) y → MatchOption r (o ≡ Out) (λ n. o ≡ Is (Int n)) → IsNumber z o
checked z y None o e h k = subst (IsNumber z) (sym k) (λ f. h (subst (FitsSigned w64) (sym e) f))
checked z y (Some n) o e h k = subst (IsNumber z) (sym k) (ap Int (h.1 ∙ e), subst (FitsSigned w64) e h.0)

pub same : (a : ℤ) → FitsSigned w64 a → to_z w64 (of_z w64 a) ≡ a
same a f = to_z-of_z w64 a f

pub both_same : (f : ℤ → ℤ → ℤ) (a b : ℤ) → FitsSigned w64 a → FitsSigned w64 b → f (to_z w64 (of_z w64 a)) (to_z w64 (of_z w64 b)) ≡ f a b
both_same f a b h k = ap (λ x. f x (to_z w64 (of_z w64 b))) (same a h) ∙ ap (f a) (same b k)

-- the same of equal numbers
pub wide : (a b x y : ℤ) → x ≡ a → y ≡ b → (x +ℤ pos SET_MAX) ≤ℤ y → (a +ℤ pos SET_MAX) ≤ℤ b
wide a b x y e f l = omega (arith, ints, e, f, l)

-- ---- numbers that fit

pub remainder_fits : (b r : ℤ) → FitsSigned w64 b → IsRemainder b r → FitsSigned w64 r
remainder_fits (pos m) (pos n) f h = record { sfits = ⊎_elim (λ p. omega (arith, ints, f.sfits, p.1)) (λ p. absurd (omega (arith, ints, p.0, p.1))) h }
remainder_fits (pos m) (negsuc n) f h = record { sfits = ⊎_elim (λ p. absurd (omega (arith, ints, p.0))) (λ p. absurd (omega (arith, ints, p.0))) h }
remainder_fits (negsuc m) (pos n) f h = record { sfits = ⊎_elim (λ p. absurd (omega (arith, ints, p.0, p.1))) (λ p. omega (arith, ints, p.1)) h }
remainder_fits (negsuc m) (negsuc n) f h = record { sfits = ⊎_elim (λ p. absurd (omega (arith, ints, p.0))) (λ p. omega (arith, ints, f.sfits, p.0)) h }

at_most_fits : (n : ℕ) (b : ℤ) → FitsSigned w64 b → pos n ≤ℤ b → FitsSigned w64 (pos n)
at_most_fits n (pos m) f l = record { sfits = omega (arith, ints, f.sfits, l) }
at_most_fits n (negsuc m) f l = absurd (omega (arith, ints, l))

at_least_fits : (n : ℕ) (a : ℤ) → FitsSigned w64 a → a ≤ℤ negsuc n → FitsSigned w64 (negsuc n)
at_least_fits n (pos m) f l = absurd (omega (arith, ints, l))
at_least_fits n (negsuc m) f l = record { sfits = omega (arith, ints, f.sfits, l) }

between_fits : (a n b : ℤ) → FitsSigned w64 a → FitsSigned w64 b → a ≤ℤ n → n ≤ℤ b → FitsSigned w64 n
between_fits a (pos n) b f g l m = at_most_fits n b g m
between_fits a (negsuc n) b f g l m = at_least_fits n a f l

pub past_fits : (a b : ℤ) → FitsSigned w64 a → FitsSigned w64 b → (a +ℤ pos SET_MAX) ≤ℤ b → FitsSigned w64 (a +ℤ pos SET_MAX)
past_fits a b f g l = between_fits a (a +ℤ pos SET_MAX) b f g (omega (arith, ints)) l

-- ---- quotients and remainders

pub is_zero : (b : ℤ) → FitsSigned w64 b → of_z w64 b ≡ 0 → b ≡ pos 0
is_zero b f e = sym (same b f) ∙ ap (to_z w64) e

pub not_zero : (b : ℤ) → (of_z w64 b ≡ 0 → ⊥) → b ≡ pos 0 → ⊥
not_zero b n e = n (ap (of_z w64) e)

pub remainder_same : (b r c s : ℤ) → b ≡ c → r ≡ s → IsRemainder b r → IsRemainder c s
remainder_same b r c s e f h = subst (λ x. IsRemainder x s) e (subst (IsRemainder b) f h)

pub modulus_down : (a b r n : ℤ) → n ≡ r → r ≡ int_rem a b → IsRemainder b r → FitsSigned w64 b → IsModulus a b (Is (Int n))
unfolding IsModulus
modulus_down a b r n k e h f =
    inr (int_div a b, r, subst (IsDivision a b (int_div a b)) (sym e) (down a b (subst (IsRemainder b) e h)), (ap Int k, remainder_fits b r f h))

pub modulus_up : (a b r n : ℤ) → n ≡ r +ℤ b → r ≡ int_rem a b → (b ≡ pos 0 → ⊥) → (IsRemainder b r → ⊥) → FitsSigned w64 b → IsModulus a b (Is (Int n))
unfolding IsModulus
modulus_up a b r n k e z h f =
    let d = up a b z (λ m. h (subst (IsRemainder b) (sym e) m)) in
    let s : r +ℤ b ≡ int_rem a b +ℤ b = ap (λ x. x +ℤ b) e in
    inr (int_div a b -ℤ pos 1, int_rem a b +ℤ b, d, (ap Int (k ∙ s), remainder_fits b (int_rem a b +ℤ b) f d.1))

pub quotient_down : (a b n : ℤ) → n ≡ int_div a b → IsRemainder b (int_rem a b) → FitsSigned w64 (int_div a b) → IsQuotient a b (Is (Int n))
unfolding IsQuotient
quotient_down a b n k h f = inr (int_div a b, int_rem a b, down a b h, (ap Int k, f))

pub quotient_up : (a b : ℤ) (o : Outcome) → (b ≡ pos 0 → ⊥) → (IsRemainder b (int_rem a b) → ⊥) → IsNumber (int_div a b -ℤ pos 1) o → IsQuotient a b o
unfolding IsQuotient
quotient_up a b o z h k = inr (int_div a b -ℤ pos 1, int_rem a b +ℤ b, up a b z h, k)

by_minus_one : (x : ℤ) → neg_ℤ x *ℤ negsuc 0 ≡ x
by_minus_one (pos zero) = refl
by_minus_one (pos (suc n)) = omega (arith, ints)
by_minus_one (negsuc n) = omega (arith, ints)

turned : (x y : ℤ) → y ≡ negsuc 0 → x ≡ (neg_ℤ x *ℤ y) +ℤ pos 0
turned x y k = let m : neg_ℤ x *ℤ y ≡ x = ap (λ u. neg_ℤ x *ℤ u) k ∙ by_minus_one x in omega (arith, ints, m)

-- dividing by -1
pub quotient_negated : (a b : ℤ) (o : Outcome) → b ≡ negsuc 0 → IsNegation a o → IsQuotient a b o
unfolding IsQuotient IsNegation
quotient_negated a b o e h = inr (neg_ℤ a, pos 0, (turned a b e, subst (λ x. IsRemainder x (pos 0)) (sym e) (inr (omega (arith, ints), omega (arith, ints)))), h)
