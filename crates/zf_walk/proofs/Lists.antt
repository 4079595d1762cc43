-- Lists: what they contain, and relations of each element to each later one.
use Rattle.zf_walk.proofs.Prelude.{◌++◌, ◌<◌, ◌∙◌, ◌∷◌, ◌≡◌, ◌≤◌, ◌⊎◌, [], ap, arith, get_or, inl, inr, length, length-append, List, refl, subst, suc, sym, zero, get_or_default, ◌≢◌, AllPairs, Contains}

pub Contains-head : {X : Type 0} (x : X) (xs : List X) → Contains (x ∷ xs) x
Contains-head x xs = (zero, omega arith, refl)

pub Contains-later : {X : Type 0} (y : X) (xs : List X) (x : X) → Contains xs x → Contains (y ∷ xs) x
Contains-later y xs x (k, h, e) = (suc k, omega arith, e)

pub Contains-cases : {X : Type 0} (y : X) (xs : List X) (x : X) → Contains (y ∷ xs) x → (y ≡ x) ⊎ Contains xs x
Contains-cases y xs x (zero, h, e) = inl e
Contains-cases y xs x (suc k, h, e) = inr (k, omega arith, e)

pub Contains-nil : {X : Type 0} (x : X) → Contains [] x → ⊥
Contains-nil x (k, h, e) = omega arith

pub Contains-left : {X : Type 0} (xs ys : List X) (x : X) → Contains xs x → Contains (xs ++ ys) x
Contains-left [] ys x m = absurd (Contains-nil x m)
Contains-left (y ∷ xs) ys x m = elim (Contains-cases y xs x m) [
  | inl e ↦ subst (λ z. Contains (z ∷ (xs ++ ys)) x) (sym e) (Contains-head x (xs ++ ys))
  | inr later ↦ Contains-later y (xs ++ ys) x (Contains-left xs ys x later)
]

pub Contains-right : {X : Type 0} (xs ys : List X) (x : X) → Contains ys x → Contains (xs ++ ys) x
Contains-right [] ys x m = m
Contains-right (y ∷ xs) ys x m = Contains-later y (xs ++ ys) x (Contains-right xs ys x m)

pub Contains-either : {X : Type 0} (xs ys : List X) (x : X) → Contains (xs ++ ys) x → Contains xs x ⊎ Contains ys x
Contains-either [] ys x m = inr m
Contains-either (y ∷ xs) ys x m = elim (Contains-cases y (xs ++ ys) x m) [
  | inl e ↦ inl (subst (λ z. Contains (z ∷ xs) x) (sym e) (Contains-head x xs))
  | inr later ↦ elim (Contains-either xs ys x later) [ inl a ↦ inl (Contains-later y xs x a) | inr b ↦ inr b ]
]

module _ {X : Type 0} (R : X → X → Type 0) where
  pub AllPairs-nil : AllPairs R []
  AllPairs-nil i j d l m = absurd (omega arith)

  pub AllPairs-cons : (x : X) (xs : List X) → ((y : X) → Contains xs y → R x y) → AllPairs R xs → AllPairs R (x ∷ xs)
  AllPairs-cons x xs h o i zero d l m = absurd (omega arith)
  AllPairs-cons x xs h o zero (suc j) d l m = let k : j < length xs = omega arith in h (get_or xs j d) (j, k, get_or_default xs j (get_or xs j d) d k)
  AllPairs-cons x xs h o (suc i) (suc j) d l m = o i j d (omega arith) (omega arith)

  pub AllPairs-head : (x : X) (xs : List X) → AllPairs R (x ∷ xs) → (y : X) → Contains xs y → R x y
  AllPairs-head x xs o y (k, h, e) = subst (R x) e (o zero (suc k) y (omega arith) (omega arith))

  pub AllPairs-tail : (x : X) (xs : List X) → AllPairs R (x ∷ xs) → AllPairs R xs
  AllPairs-tail x xs o i j d l m = o (suc i) (suc j) d (omega arith) (omega arith)

  pub AllPairs-back : (xs ys : List X) → AllPairs R (xs ++ ys) → AllPairs R ys
  AllPairs-back [] ys o = o
  AllPairs-back (x ∷ xs) ys o = AllPairs-back xs ys (AllPairs-tail x (xs ++ ys) o)

  -- an element before another
  pub AllPairs-across : (xs ys : List X) → AllPairs R (xs ++ ys) → (x y : X) → Contains xs x → Contains ys y → R x y
  AllPairs-across [] ys o x y m n = absurd (Contains-nil x m)
  AllPairs-across (z ∷ xs) ys o x y m n = elim (Contains-cases z xs x m) [
    | inl e ↦ subst (λ w. R w y) e (AllPairs-head z (xs ++ ys) o y (Contains-right xs ys y n))
    | inr later ↦ AllPairs-across xs ys (AllPairs-tail z (xs ++ ys) o) x y later n
  ]

-- lists with the same members are equal, where an order tells them apart
pub AllPairs-unique : {X : Type 0} (R : X → X → Type 0) → ((x y : X) → R x y → R y x → ⊥) → (xs ys : List X) → AllPairs R xs → AllPairs R ys
    → ((x : X) → Contains xs x → Contains ys x) → ((x : X) → Contains ys x → Contains xs x) → xs ≡ ys
AllPairs-unique R never [] [] o p to from = refl
AllPairs-unique R never [] (y ∷ ys) o p to from = absurd (Contains-nil y (from y (Contains-head y ys)))
AllPairs-unique R never (x ∷ xs) [] o p to from = absurd (Contains-nil x (to x (Contains-head x xs)))
AllPairs-unique {X} R never (x ∷ xs) (y ∷ ys) o p to from =
    same (elim (Contains-cases y ys x (to x (Contains-head x xs))) [
      | inl e ↦ sym e
      | inr m ↦ elim (Contains-cases x xs y (from y (Contains-head y ys))) [
        | inl e ↦ e
        | inr n ↦ absurd (never x y (AllPairs-head R x xs o y n) (AllPairs-head R y ys p x m))
      ]
    ])
    (λ h k. AllPairs-unique R never xs ys (AllPairs-tail R x xs o) (AllPairs-tail R y ys p) h k) where
      itself : (z : X) → R z z → ⊥
      itself z r = never z z r r

      same : x ≡ y → (((z : X) → Contains xs z → Contains ys z) → ((z : X) → Contains ys z → Contains xs z) → xs ≡ ys) → x ∷ xs ≡ y ∷ ys
      same e ih = let tails = ih
          (λ z m. elim (Contains-cases y ys z (to z (Contains-later x xs z m))) [ inl q ↦ absurd (itself x (subst (R x) (sym q ∙ sym e) (AllPairs-head R x xs o z m))) | inr n ↦ n ])
          (λ z m. elim (Contains-cases x xs z (from z (Contains-later y ys z m))) [ inl q ↦ absurd (itself y (subst (R y) (sym q ∙ e) (AllPairs-head R y ys p z m))) | inr n ↦ n ]) in
          let l : x ∷ xs ≡ y ∷ xs = ap (λ w. w ∷ xs) e in l ∙ ap (λ w. y ∷ w) tails

-- a list of distinct elements is no longer than one that has them all
split-at : {X : Type 0} (x : X) (ys : List X) → Contains ys x → (a : List X) × (b : List X) × (ys ≡ a ++ x ∷ b)
split-at x [] m = absurd (Contains-nil x m)
split-at {X} x (y ∷ ys) m = elim (Contains-cases y ys x m) [
  | inl e ↦ ([], ys, ap (λ z. z ∷ ys) e)
  | inr n ↦ let r = split-at x ys n in (y ∷ r.0, r.1, ap (λ zs. y ∷ zs) r.2)
]

pub no_longer : {X : Type 0} (xs ys : List X) → AllPairs (λ a b. a ≢ b) xs → ((x : X) → Contains xs x → Contains ys x) → length xs ≤ length ys
no_longer [] ys d h = omega arith
no_longer {X} (x ∷ xs) ys d h =
    let s = split-at x ys (h x (Contains-head x xs)) in
    let ih : length xs ≤ length (s.0 ++ s.1) = no_longer xs (s.0 ++ s.1) (AllPairs-tail (λ a b. a ≢ b) x xs d) (λ z m.
    elim (Contains-either s.0 (x ∷ s.1) z (subst (λ (zs : List X). Contains zs z) s.2 (h z (Contains-later x xs z m)))) [
      | inl a ↦ Contains-left s.0 s.1 z a
      | inr b ↦ elim (Contains-cases x s.1 z b) [ inl e ↦ absurd (AllPairs-head (λ a b. a ≢ b) x xs d z m e) | inr c ↦ Contains-right s.0 s.1 z c ]
    ]) in
    let l : length ys ≡ length (s.0 ++ x ∷ s.1) = ap length s.2 in
    omega (arith, length-append s.0 (x ∷ s.1), length-append s.0 s.1)
