-- Numbers whose digits are the places of used components.
use Rattle.zf_walk.proofs.Prelude.{◌*◌, ◌+◌, ◌<◌, ◌∷◌, ◌≡◌, ◌≤◌, [], ap, arith, drop, get_or, inl, inr, length, List, subst, suc, zero, ℕ, cases_eq, cases_lt, drop_more, Contains, combinations, HavePlaces, number, Used, mul-le-mul_left}
use Rattle.zf_walk.proofs.Lists.{Contains-head, Contains-later, Contains-cases, Contains-nil}

pub HavePlaces-tail : (u : Used) (us : List Used) (places : List ℕ) → HavePlaces (u ∷ us) places → HavePlaces us places
HavePlaces-tail u us places h w m = h w (Contains-later u us w m)

-- a number has one last digit
pub one_digit : (n m c p q : ℕ) → p < c → q < c → n * c + p ≡ m * c + q → (n ≡ m) × (p ≡ q)
one_digit n m c p q a b e = elim (cases_eq n m) [
  | inl same ↦ (same, let z : n * c ≡ m * c = ap (λ k. k * c) same in omega arith)
  | inr other ↦ absurd (elim (cases_lt n m) [
    | inl less ↦ omega (arith, mul-le-mul_left {m = n + 1} {n = m} c (omega arith))
    | inr more ↦ omega (arith, mul-le-mul_left {m = m + 1} {n = n} c (omega arith))
  ])
]

-- one digit more makes no number smaller
pub next_number : (n c p : ℕ) → p < c → n ≤ n * c + p
next_number n c p h = omega (arith, mul-le-mul_left {m = 1} {n = c} n (omega arith))

pub number-grows : (us : List Used) (places : List ℕ) (n : ℕ) → HavePlaces us places → n ≤ number n us places
number-grows [] places n h = omega arith
number-grows (u ∷ us) places n h =
    let d = h u (Contains-head u us) in
    let m = n * u.count + get_or places u.component 0 in
    omega (arith, next_number n u.count (get_or places u.component 0) d.1, number-grows us places m (HavePlaces-tail u us places h))

-- there are fewer numbers than combinations
pub number-below : (us : List Used) (places : List ℕ) (n : ℕ) → HavePlaces us places → number n us places < (n + 1) * combinations us
number-below [] places n h = omega arith
number-below (u ∷ us) places n h =
    let d = h u (Contains-head u us) in
    let p = get_or places u.component 0 in
    let rest = combinations us in
    omega (arith, number-below us places (n * u.count + p) (HavePlaces-tail u us places h), mul-le-mul_left {m = p + 1} {n = u.count} rest (omega (arith, d.1)))

-- equal numbers have equal digits
pub number-same : (us : List Used) (places others : List ℕ) (n m : ℕ) → HavePlaces us places → HavePlaces us others → number n us places ≡ number m us others
    → (n ≡ m) × ((u : Used) → Contains us u → get_or places u.component 0 ≡ get_or others u.component 0)
number-same [] places others n m h k e = (e, λ u c. absurd (Contains-nil u c))
number-same (u ∷ us) places others n m h k e =
    let p = get_or places u.component 0 in
    let q = get_or others u.component 0 in
    let rest = number-same us places others (n * u.count + p) (m * u.count + q) (HavePlaces-tail u us places h) (HavePlaces-tail u us others k) e in
    let a = h u (Contains-head u us) in
    let b = k u (Contains-head u us) in
    let here = one_digit n m u.count p q a.1 b.1 rest.0 in (
      here.0,
      λ w c. elim (Contains-cases u us w c) [
        | inl same ↦ subst (λ (v : Used). get_or places v.component 0 ≡ get_or others v.component 0) same here.1
        | inr later ↦ rest.1 w later
      ],
    )

-- the number that is reached with one component more
pub next_digit : (items : List Used) (places : List ℕ) (n i whole : ℕ) (d : Used) → i < length items → number n (drop i items) places ≡ whole
    → number (n * (get_or items i d).count + get_or places (get_or items i d).component 0) (drop (i + 1) items) places ≡ whole
next_digit items places n i whole d near e = subst (λ us. number n us places ≡ whole) (drop_more items i d near) e

HavePlaces-drop : (us : List Used) (places : List ℕ) (i : ℕ) → HavePlaces us places → HavePlaces (drop i us) places
HavePlaces-drop us places zero h = h
HavePlaces-drop [] places (suc i) h = h
HavePlaces-drop (u ∷ us) places (suc i) h = HavePlaces-drop us places i (HavePlaces-tail u us places h)

-- a number on the way is no greater than the whole one, and there are fewer of these than combinations
pub number_small : (us items : List Used) (places : List ℕ) (n i : ℕ) → items ≡ us → HavePlaces us places → number n (drop i items) places ≡ number 0 us places → n < combinations us
number_small us items places n i same h e =
    let all : number n (drop i us) places ≡ number 0 us places = subst (λ ys. number n (drop i ys) places ≡ number 0 us places) same e in
    omega (arith, number-grows (drop i us) places n (HavePlaces-drop us places i h), all, number-below us places 0 h)

pub digit_small : (us items : List Used) (places : List ℕ) (n i : ℕ) (d : Used) → items ≡ us → HavePlaces us places → i < length items → number n (drop i items) places ≡ number 0 us places
    → n * (get_or items i d).count + get_or places (get_or items i d).component 0 < combinations us
digit_small us items places n i d same h near e =
    number_small us items places (n * (get_or items i d).count + get_or places (get_or items i d).component 0) (i + 1) same h (next_digit items places n i (number 0 us places) d near e)
