-- The first of several: what is counted of them one after another, and the greatest.
use Rattle.zf_shape.proofs.Prelude.{◌+◌, ◌<◌, ◌∷◌, ◌≡◌, ◌≤◌, [], add-one, ap, arith, get_or, length, List, max, suc, take, zero, ℕ}

-- what is counted of several is that of each
abbrev pub IsCounted : {X : Type 0} → (X → ℕ) → (List X → ℕ) → Type 0
IsCounted {X} one all = (all [] ≡ 0) × ((x : X) (xs : List X) → all (x ∷ xs) ≡ one x + all xs)

abbrev pub IsMore : {X : Type 0} → (X → ℕ) → (List X → ℕ) → Type 0
IsMore {X} one all = (xs : List X) (i : ℕ) (x : X) → x ≡ get_or xs i x → i < length xs → all (take (i + 1) xs) ≡ all (take i xs) + one x

module _ {X : Type 0} (one : X → ℕ) (all : List X → ℕ) (counted : IsCounted one all) where
  pub before : (xs : List X) (i : ℕ) (x : X) → x ≡ get_or xs i x → i < length xs → all (take i xs) + one x ≤ all xs
  before [] i x at l = absurd (omega arith)
  before (y ∷ xs) zero x at l = omega (arith, counted.0, counted.1 y xs, ap one at)
  before (y ∷ xs) (suc i) x at l = omega (arith, counted.1 y xs, counted.1 y (take i xs), before xs i x at (omega arith))

  next : (xs : List X) (i : ℕ) (x : X) → x ≡ get_or xs i x → i < length xs → all (take (suc i) xs) ≡ all (take i xs) + one x
  next [] i x at l = absurd (omega arith)
  next (y ∷ xs) zero x at l = omega (arith, counted.0, counted.1 y [], ap one at)
  next (y ∷ xs) (suc i) x at l = omega (arith, counted.1 y (take i xs), counted.1 y (take (suc i) xs), next xs i x at (omega arith))

  pub more : IsMore one all
  more xs i x at l = rw add-one (next xs i x at l)

-- the height of several is that of the highest
abbrev pub IsHighest : {X : Type 0} → (X → ℕ) → (List X → ℕ) → Type 0
IsHighest {X} one all = (all [] ≡ 0) × ((x : X) (xs : List X) → all (x ∷ xs) ≡ max (one x) (all xs))

-- none of several is higher than all
abbrev pub IsWithin : {X : Type 0} → (X → ℕ) → (List X → ℕ) → Type 0
IsWithin {X} one all = (xs ys : List X) (i : ℕ) (x : X) (h : ℕ) → xs ≡ ys → x ≡ get_or xs i x → i < length xs → all ys ≤ h → one x ≤ h

-- one more that is not too high
abbrev pub StayWithin : {X : Type 0} → (X → ℕ) → (List X → ℕ) → Type 0
StayWithin {X} one all = (xs : List X) (i : ℕ) (x : X) (h : ℕ) → x ≡ get_or xs i x → i < length xs → all (take i xs) ≤ h → one x ≤ h → all (take (i + 1) xs) ≤ h

module _ {X : Type 0} (one : X → ℕ) (all : List X → ℕ) (highest : IsHighest one all) where
  one_at : (xs : List X) (i : ℕ) (x : X) (h : ℕ) → x ≡ get_or xs i x → i < length xs → all xs ≤ h → one x ≤ h
  one_at [] i x h at l e = absurd (omega arith)
  one_at (y ∷ xs) zero x h at l e = omega (arith, highest.1 y xs, ap one at, e)
  one_at (y ∷ xs) (suc i) x h at l e = one_at xs i x h at (omega arith) (omega (arith, highest.1 y xs, e))

  pub within : IsWithin one all
  within xs ys i x h same at l e = one_at xs i x h at l (omega (arith, ap all same, e))

  one_further : (xs : List X) (i : ℕ) (x : X) (h : ℕ) → x ≡ get_or xs i x → i < length xs → all (take i xs) ≤ h → one x ≤ h → all (take (suc i) xs) ≤ h
  one_further [] i x h at l e f = absurd (omega arith)
  one_further (y ∷ xs) zero x h at l e f = omega (arith, highest.0, highest.1 y [], ap one at, f)
  one_further (y ∷ xs) (suc i) x h at l e f =
      let rest = one_further xs i x h at (omega arith) (omega (arith, highest.1 y (take i xs), e)) f in
      omega (arith, highest.1 y (take i xs), highest.1 y (take (suc i) xs), e, rest)

  pub stay : StayWithin one all
  stay xs i x h at l e f = rw add-one (one_further xs i x h at l e f)
