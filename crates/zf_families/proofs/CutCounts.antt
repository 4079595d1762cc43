-- Counts of injections that go no further than one more than a set may have.
use Rattle.zf_families.proofs.Prelude.{◌*◌, ◌++◌, ◌+◌, ◌-◌, ◌^◌, ◌∙◌, ◌∷◌, ◌≡◌, ◌≤◌, [], add-one, ap, arith, drop, length, List, min, refl, subst, suc, sym, take, zero, ℕ, ⊎_elim, mul-le-mul_left, mul_assoc, mul_comm, pow-succ', pow-zero, cases_lt, length-drop, take-append-drop, SET_MAX, falling, partial_injection_count, stepped}
use Rattle.zf_families.proofs.Counts.{min_product}

-- ---- falling products

pub falling_more : (n i : ℕ) → falling n (suc i) ≡ falling n i * (n - i)
falling_more n zero = grind arith
falling_more n (suc i) =
    let less : n - 1 - i ≡ n - suc i = omega arith in
    ap (λ m. n * m) (falling_more (n - 1) i ∙ ap (λ m. falling (n - 1) i * m) less) ∙ sym (mul_assoc n (falling (n - 1) i) (n - suc i))

pub falling_turn : (n i count next c : ℕ) → count ≡ min (falling n i) c → next ≡ min (count * (n - i)) c → next ≡ min (falling n (i + 1)) c
falling_turn n i count next c h e =
    e ∙ ap (λ m. min (m * (n - i)) c) h ∙ min_product (falling n i) (n - i) c ∙ ap (λ m. min m c) (sym (falling_more n i) ∙ ap (falling n) (sym (add-one i)))

-- ---- partial injections

-- the counts at n, n - 1, .. are right as far as they reach
abbrev pub AreCutCounts : ℕ → ℕ → List ℕ → Type 0
AreCutCounts k n [] = Unit {0}
AreCutCounts k n (c ∷ cs) = (min k n ≤ length cs → c ≡ min (partial_injection_count k n) (SET_MAX + 1)) × AreCutCounts k (n - 1) cs

min_sum : (a b n c : ℕ) → min (min a c + min (min b c * n) c) c ≡ min (a + n * b) c
min_sum a b n c =
    let e : min (min b c * n) c ≡ min (n * b) c = min_product b n c ∙ ap (λ m. min m c) (mul_comm b n) in
    ap (λ m. min (min a c + m) c) e ∙ omega arith

none_left : (d n c m : ℕ) → n ≡ 0 → min (d * n) c ≡ min (n * m) c
none_left d n c m e = ap (λ k. min (d * k) c) e ∙ grind arith

one_step : (k n c d left : ℕ) → (min k n ≤ suc left → c ≡ min (partial_injection_count k n) (SET_MAX + 1))
    → (min k (n - 1) ≤ left → d ≡ min (partial_injection_count k (n - 1)) (SET_MAX + 1)) → min (suc k) n ≤ suc left
    → min (c + min (d * n) (SET_MAX + 1)) (SET_MAX + 1) ≡ min (partial_injection_count (suc k) n) (SET_MAX + 1)
one_step k n c d left f g h = at (SET_MAX + 1) f g
  where
    at : (m : ℕ) → (min k n ≤ suc left → c ≡ min (partial_injection_count k n) m) → (min k (n - 1) ≤ left → d ≡ min (partial_injection_count k (n - 1)) m)
        → min (c + min (d * n) m) m ≡ min (partial_injection_count k n + n * partial_injection_count k (n - 1)) m
    at m f g = ⊎_elim
        (λ l.
        let zero_n : n ≡ 0 = omega arith in
        ap (λ u. min (u + min (d * n) m) m) (f (omega arith)) ∙ ap (λ u. min (min (partial_injection_count k n) m + u) m) (none_left d n m (partial_injection_count k (n - 1)) zero_n) ∙ omega arith)
        (λ l.
        ap (λ u. min (u + min (d * n) m) m) (f (omega arith)) ∙ ap (λ u. min (min (partial_injection_count k n) m + min (u * n) m) m) (g (omega arith))
        ∙ min_sum (partial_injection_count k n) (partial_injection_count k (n - 1)) n m)
        (cases_lt n 1)

pub counts_turn : (k n : ℕ) (cs : List ℕ) → AreCutCounts k n cs → AreCutCounts (suc k) n (stepped n cs)
counts_turn k n [] h = tt
counts_turn k n (c ∷ []) h = (λ l. let e : n ≡ 0 = omega arith in h.0 (omega arith) ∙ ap (λ m. min m (SET_MAX + 1)) (more e), tt)
  where
    more : n ≡ 0 → partial_injection_count k n ≡ partial_injection_count k n + n * partial_injection_count k (n - 1)
    more e = grind (arith, e)
counts_turn k n (c ∷ d ∷ cs) h = (λ l. one_step k n c d (length cs) h.0 h.1.0 (same l), counts_turn k (n - 1) (d ∷ cs) h.1)
  where
    long : (m : ℕ) (x : ℕ) (xs : List ℕ) → length (stepped m (x ∷ xs)) ≡ suc (length xs)
    long m x [] = refl
    long m x (y ∷ ys) = ap suc (long (m - 1) y ys)

    same : min (suc k) n ≤ length (stepped (n - 1) (d ∷ cs)) → min (suc k) n ≤ suc (length cs)
    same l = let e = long (n - 1) d cs in omega (arith, e, l)

count_some : (k n : ℕ) → 1 ≤ partial_injection_count k n
count_some zero n = omega arith
count_some (suc k) n = let h = count_some k n in omega (arith, h)

pub count_many : (m k n : ℕ) → m ≤ k → m ≤ n → 2 ^ m ≤ partial_injection_count k n
count_many zero k n h g = let e : 2 ^ zero ≡ 1 = pow-zero 2 in let s = count_some k n in omega (arith, e, s)
count_many (suc m) zero n h g = absurd (omega arith)
count_many (suc m) (suc k) n h g =
    let e : 2 ^ suc m ≡ 2 * 2 ^ m = pow-succ' 2 m in
    let a = count_many m k n (omega arith) (omega arith) in
    let b = count_many m k (n - 1) (omega arith) (omega arith) in
    let one : 1 ≤ n = omega arith in
    let c : partial_injection_count k (n - 1) * 1 ≤ partial_injection_count k (n - 1) * n = mul-le-mul_left (partial_injection_count k (n - 1)) one in
    let d : partial_injection_count k (n - 1) * n ≡ n * partial_injection_count k (n - 1) = mul_comm (partial_injection_count k (n - 1)) n in
    omega (arith, e, a, b, c, d)

step_short : (n : ℕ) (cs : List ℕ) → length cs ≤ 1 → stepped n cs ≡ cs
step_short n [] h = refl
step_short n (c ∷ []) h = refl
step_short n (c ∷ d ∷ cs) h = absurd (omega arith)

pub step_end : (n k : ℕ) (cs : List ℕ) → length cs - 1 ≤ k → take k cs ++ stepped (n - k) (drop k cs) ≡ cs
step_end n k cs h =
    let e : length (drop k cs) ≡ length cs - k = length-drop k cs in
    ap (λ ds. take k cs ++ ds) (step_short (n - k) (drop k cs) (omega (arith, e, h))) ∙ take-append-drop k cs

pub length_stepped : (n : ℕ) (cs : List ℕ) → length (stepped n cs) ≡ length cs
length_stepped n [] = refl
length_stepped n (c ∷ []) = refl
length_stepped n (c ∷ d ∷ cs) = ap suc (length_stepped (n - 1) (d ∷ cs))

pub many_injections : (k n : ℕ) → 18 ≤ k → 18 ≤ n → SET_MAX + 1 ≡ min (partial_injection_count k n) (SET_MAX + 1)
many_injections k n h g = let m : 2 ^ 18 ≤ partial_injection_count k n = count_many 18 k n h g in omega (arith, m)

pub counts_stepped : (k n : ℕ) (cs next : List ℕ) → next ≡ stepped n cs → (length cs ≡ 18) × AreCutCounts k n cs → (length next ≡ 18) × AreCutCounts (k + 1) n next
counts_stepped k n cs next e h =
    subst (λ ds. (length ds ≡ 18) × AreCutCounts (k + 1) n ds) (sym e) (length_stepped n cs ∙ h.0, subst (λ m. AreCutCounts m n (stepped n cs)) (sym (add-one k)) (counts_turn k n cs h.1))
