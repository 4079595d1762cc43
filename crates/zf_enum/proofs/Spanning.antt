-- Sums, differences and products of numbers that lie between two others.
use Rattle.zf_enum.proofs.Prelude.{◌≡◌, ◌∙◌, ℕ, ◌+◌, ◌^◌, ◌≤◌, zero, suc, sym, ap, ap₂, subst, arith, to_z, of_z, Option, Some, None, ℤ, pos, negsuc, neg_ℤ, ◌+ℤ◌, ◌-ℤ◌, ◌*ℤ◌, ◌≤ℤ◌, ◌<ℤ◌, FitsSigned, unsigned_abs, unwrap_or, Interval, IsSmall, Spans, w32, w64, ints, to_z-of_z, unsigned_abs-mul, zero-*ℤ, suc_ℤ-*ℤ, *ℤ-negsuc, *ℤ_comm, SomeIff, none-some}
use Rattle.std.proofs.Math.Nat.{mul-le-mul}

-- ---- products

negative_times : (n : ℕ) (b : ℤ) → negsuc n *ℤ b ≡ neg_ℤ (pos (suc n) *ℤ b)
negative_times n b = *ℤ_comm (negsuc n) b ∙ *ℤ-negsuc b n ∙ ap neg_ℤ (*ℤ_comm b (pos (suc n)))

count_sum : (n : ℕ) (a b : ℤ) → pos n *ℤ (a +ℤ b) ≡ (pos n *ℤ a) +ℤ (pos n *ℤ b)
count_sum zero a b = let x = zero-*ℤ (a +ℤ b) in let y = zero-*ℤ a in let z = zero-*ℤ b in omega (arith, ints, x, y, z)
count_sum (suc n) a b =
    let x = suc_ℤ-*ℤ (pos n) (a +ℤ b) in
    let y = suc_ℤ-*ℤ (pos n) a in
    let z = suc_ℤ-*ℤ (pos n) b in
    let r = count_sum n a b in
    omega (arith, ints, x, y, z, r)

times_sum : (c a b : ℤ) → c *ℤ (a +ℤ b) ≡ (c *ℤ a) +ℤ (c *ℤ b)
times_sum (pos n) a b = count_sum n a b
times_sum (negsuc n) a b =
    let x = negative_times n (a +ℤ b) in
    let y = negative_times n a in
    let z = negative_times n b in
    let r = count_sum (suc n) a b in
    omega (arith, ints, x, y, z, r)

sum_times : (q z b : ℤ) → (q +ℤ z) *ℤ b ≡ (q *ℤ b) +ℤ (z *ℤ b)
sum_times q z b = *ℤ_comm (q +ℤ z) b ∙ times_sum b q z ∙ ap₂ (λ (x y : ℤ). x +ℤ y) (*ℤ_comm b q) (*ℤ_comm b z)

opposite_times : (x v : ℤ) → neg_ℤ x *ℤ v ≡ neg_ℤ (x *ℤ v)
opposite_times x v =
    let none : x +ℤ neg_ℤ x ≡ pos zero = omega (arith, ints) in
    let whole : (x *ℤ v) +ℤ (neg_ℤ x *ℤ v) ≡ pos zero = sym (sum_times x (neg_ℤ x) v) ∙ ap (λ u. u *ℤ v) none ∙ zero-*ℤ v in
    omega (arith, ints, whole)

count_times : (n : ℕ) (t v : ℤ) → (pos n *ℤ t) *ℤ v ≡ pos n *ℤ (t *ℤ v)
count_times zero t v = ap (λ u. u *ℤ v) (zero-*ℤ t) ∙ zero-*ℤ v ∙ sym (zero-*ℤ (t *ℤ v))
count_times (suc n) t v =
    let x = suc_ℤ-*ℤ (pos n) t in
    let y = suc_ℤ-*ℤ (pos n) (t *ℤ v) in
    let z = count_times n t v in
    let s = sum_times (pos n *ℤ t) t v in
    ap (λ u. u *ℤ v) x ∙ omega (arith, ints, y, z, s)

product_times : (c t v : ℤ) → (c *ℤ t) *ℤ v ≡ c *ℤ (t *ℤ v)
product_times (pos n) t v = count_times n t v
product_times (negsuc n) t v =
    ap (λ u. u *ℤ v) (negative_times n t) ∙ opposite_times (pos (suc n) *ℤ t) v ∙ ap neg_ℤ (count_times (suc n) t v) ∙ sym (negative_times n (t *ℤ v))

-- ---- products and order

count_grows : (n : ℕ) (a b : ℤ) → (a ≤ℤ b) → ((pos n *ℤ a) ≤ℤ (pos n *ℤ b))
count_grows zero a b h = let x = zero-*ℤ a in let y = zero-*ℤ b in omega (arith, ints, x, y)
count_grows (suc n) a b h =
    let x = suc_ℤ-*ℤ (pos n) a in
    let y = suc_ℤ-*ℤ (pos n) b in
    let z = count_grows n a b h in
    omega (arith, ints, x, y, z, h)

grows : (c a b : ℤ) → (pos 0 ≤ℤ c) → (a ≤ℤ b) → ((c *ℤ a) ≤ℤ (c *ℤ b))
grows (pos n) a b p h = count_grows n a b h
grows (negsuc n) a b p h = absurd (omega (arith, ints, p))

falls : (c a b : ℤ) → (c <ℤ pos 0) → (a ≤ℤ b) → ((c *ℤ b) ≤ℤ (c *ℤ a))
falls (pos n) a b p h = absurd (omega (arith, ints, p))
falls (negsuc n) a b p h =
    let x = negative_times n a in
    let y = negative_times n b in
    let z = count_grows (suc n) a b h in
    omega (arith, ints, x, y, z)

-- ---- intervals

-- what a checked operation answers, if it answers a number
pub told : (r : Option ℤ) (P : Type 0) (k y z : ℤ) → SomeIff r P y → r ≡ Some k → y ≡ z → k ≡ z
told None P k y z h is e = absurd (none-some k is)
told (Some n) P k y z h is e = sym (ap (λ (o : Option ℤ). unwrap_or o n) is) ∙ h.1 ∙ e

pub plus_spans : (s t u : Interval) (v m n : ℤ) → u.times ≡ s.times +ℤ t.times → u.low ≡ s.low +ℤ t.low → u.high ≡ s.high +ℤ t.high → Spans s v m → Spans t v n → Spans u v (m +ℤ n)
plus_spans s t u v m n times low high p q =
    let x : u.times *ℤ v ≡ (s.times *ℤ v) +ℤ (t.times *ℤ v) = ap (λ k. k *ℤ v) times ∙ sum_times s.times t.times v in
    (omega (arith, ints, x, low, p.0, q.0), omega (arith, ints, x, high, p.1, q.1))

pub minus_spans : (s t u : Interval) (v m n : ℤ) → u.times ≡ s.times -ℤ t.times → u.low ≡ s.low -ℤ t.high → u.high ≡ s.high -ℤ t.low → Spans s v m → Spans t v n → Spans u v (m -ℤ n)
minus_spans s t u v m n times low high p q =
    let back : s.times ≡ u.times +ℤ t.times = omega (arith, ints, times) in
    let x : s.times *ℤ v ≡ (u.times *ℤ v) +ℤ (t.times *ℤ v) = ap (λ k. k *ℤ v) back ∙ sum_times u.times t.times v in
    (omega (arith, ints, x, low, p.0, q.1), omega (arith, ints, x, high, p.1, q.0))

-- what becomes of one end
scaled : (c t u v l k : ℤ) → u ≡ c *ℤ t → k ≡ c *ℤ l → c *ℤ ((t *ℤ v) +ℤ l) ≡ (u *ℤ v) +ℤ k
scaled c t u v l k times low =
    let x : u *ℤ v ≡ c *ℤ (t *ℤ v) = ap (λ w. w *ℤ v) times ∙ product_times c t v in
    let y = times_sum c (t *ℤ v) l in
    omega (arith, ints, x, y, low)

pub up_spans : (c : ℤ) (s u : Interval) (v n : ℤ) → (pos 0 ≤ℤ c) → u.times ≡ c *ℤ s.times → u.low ≡ c *ℤ s.low → u.high ≡ c *ℤ s.high → Spans s v n → Spans u v (c *ℤ n)
up_spans c s u v n sign times low high p =
    let a = scaled c s.times u.times v s.low u.low times low in
    let b = scaled c s.times u.times v s.high u.high times high in
    let x = grows c ((s.times *ℤ v) +ℤ s.low) n sign p.0 in
    let y = grows c n ((s.times *ℤ v) +ℤ s.high) sign p.1 in
    (omega (arith, ints, a, x), omega (arith, ints, b, y))

pub down_spans : (c : ℤ) (s u : Interval) (v n : ℤ) → (c <ℤ pos 0) → u.times ≡ c *ℤ s.times → u.low ≡ c *ℤ s.high → u.high ≡ c *ℤ s.low → Spans s v n → Spans u v (c *ℤ n)
down_spans c s u v n sign times low high p =
    let a = scaled c s.times u.times v s.high u.low times low in
    let b = scaled c s.times u.times v s.low u.high times high in
    let x = falls c ((s.times *ℤ v) +ℤ s.low) n sign p.0 in
    let y = falls c n ((s.times *ℤ v) +ℤ s.high) sign p.1 in
    (omega (arith, ints, a, y), omega (arith, ints, b, x))

-- a interval that is one number
pub only : (s : Interval) (v m : ℤ) → s.times ≡ pos 0 → s.low ≡ s.high → Spans s v m → m ≡ s.low
only s v m t e p =
    let x : s.times *ℤ v ≡ pos 0 = ap (λ u. u *ℤ v) t ∙ zero-*ℤ v in
    omega (arith, ints, x, e, p.0, p.1)

-- ---- numbers of 32 bits

bounded : (z : ℤ) → FitsSigned w32 z → unsigned_abs z ≤ 2 ^ 31
bounded (pos n) h = omega (arith, ints, h.sfits)
bounded (negsuc n) h = omega (arith, ints, h.sfits)

between : (z : ℤ) → unsigned_abs z ≤ 2 ^ 62 → (negsuc (2 ^ 62) ≤ℤ z) × (z ≤ℤ pos (2 ^ 62))
between (pos n) h = (omega (arith, ints, h), omega (arith, ints, h))
between (negsuc n) h = (omega (arith, ints, h), omega (arith, ints, h))

-- the product of two of them
pub product_between : (a b : ℤ) → FitsSigned w32 a → FitsSigned w32 b → (negsuc (2 ^ 62) ≤ℤ (a *ℤ b)) × ((a *ℤ b) ≤ℤ pos (2 ^ 62))
product_between a b f g = between (a *ℤ b) (subst (λ n. n ≤ 2 ^ 62) (sym (unsigned_abs-mul a b)) (mul-le-mul (bounded a f) (bounded b g)))

pub small_low : (z : ℤ) → FitsSigned w32 z → negsuc (2 ^ 31) ≤ℤ z
small_low (pos n) f = omega (arith, ints)
small_low (negsuc n) f = omega (arith, ints, f.sfits)

pub small_high : (z : ℤ) → FitsSigned w32 z → z ≤ℤ pos (2 ^ 31)
small_high (pos n) f = omega (arith, ints, f.sfits)
small_high (negsuc n) f = omega (arith, ints)

fit : (m : ℤ) → (negsuc (2 ^ 62 + 2 ^ 32) ≤ℤ m) → (m ≤ℤ pos (2 ^ 62 + 2 ^ 32)) → FitsSigned w64 m
fit (pos n) l h = record { sfits = omega (arith, ints, h) }
fit (negsuc n) l h = record { sfits = omega (arith, ints, l) }

-- a number of a interval has 64 bits
pub spans_fit : (s : Interval) (v m : ℤ) → IsSmall s → FitsSigned w32 v → Spans s v m → FitsSigned w64 m
spans_fit s v m small f p =
    let b = product_between s.times v small.0 f in
    let l = small_low s.low small.1 in
    let h = small_high s.high small.2 in
    fit m (omega (arith, ints, b.0, l, p.0)) (omega (arith, ints, b.1, h, p.1))

widen : (z : ℤ) → FitsSigned w32 z → FitsSigned w64 z
widen z f = let l = small_low z f in let h = small_high z f in fit z (omega (arith, ints, l)) (omega (arith, ints, h))

same_wide : (x a : ℤ) → x ≡ a → FitsSigned w32 a → to_z w64 (of_z w64 x) ≡ a
same_wide x a e f = ap (λ u. to_z w64 (of_z w64 u)) e ∙ to_z-of_z w64 a (widen a f)

module _ (x y z a b c : ℤ) (first : x ≡ a) (second : y ≡ b) (third : z ≡ c) (f : FitsSigned w32 a) (g : FitsSigned w32 b) (h : FitsSigned w32 c) where
  line_fits : FitsSigned w64 ((a *ℤ b) +ℤ c)
  line_fits =
      let p = product_between a b f g in
      let l = small_low c h in
      let k = small_high c h in
      fit ((a *ℤ b) +ℤ c) (omega (arith, ints, p.0, l)) (omega (arith, ints, p.1, k))

  product_wide : to_z w64 (of_z w64 (to_z w64 (of_z w64 x) *ℤ to_z w64 (of_z w64 y))) ≡ a *ℤ b
  product_wide =
      let p = product_between a b f g in
      ap₂ (λ (u v : ℤ). to_z w64 (of_z w64 (u *ℤ v))) (same_wide x a first f) (same_wide y b second g) ∙ to_z-of_z w64 (a *ℤ b) (fit (a *ℤ b) (omega (arith, ints, p.0)) (omega (arith, ints, p.1)))

  line_is : to_z w64 (of_z w64 (to_z w64 (of_z w64 x) *ℤ to_z w64 (of_z w64 y))) +ℤ to_z w64 (of_z w64 z) ≡ (a *ℤ b) +ℤ c
  line_is = ap₂ (λ (u v : ℤ). u +ℤ v) product_wide (same_wide z c third h)

  -- the number that a interval begins or ends with, as the machine works it out
  pub line_told : FitsSigned w64 (to_z w64 (of_z w64 (to_z w64 (of_z w64 x) *ℤ to_z w64 (of_z w64 y))) +ℤ to_z w64 (of_z w64 z))
  line_told = subst (FitsSigned w64) (sym line_is) line_fits

  pub line_same : to_z w64 (of_z w64 (to_z w64 (of_z w64 (to_z w64 (of_z w64 x) *ℤ to_z w64 (of_z w64 y))) +ℤ to_z w64 (of_z w64 z))) ≡ (a *ℤ b) +ℤ c
  line_same = ap (λ u. to_z w64 (of_z w64 u)) line_is ∙ to_z-of_z w64 ((a *ℤ b) +ℤ c) line_fits
