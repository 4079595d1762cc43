-- Fronts of lists of outcomes.
use Rattle.zf_meaning.proofs.Prelude.{◌++◌, ◌+◌, ◌<◌, ◌∷◌, ◌≡◌, ◌≤◌, [], add-one, ap, arith, length, List, None, refl, Some, suc, take, zero, ℕ, slice_get, Outcome}

next : (xs : List Outcome) (i : ℕ) (x : Outcome) → slice_get xs i ≡ Some x → take (suc i) xs ≡ take i xs ++ x ∷ []
next [] i x h = absurd (cc)
next (y ∷ ys) zero x h = let e : y ≡ x = (cc) in ap (λ z. z ∷ []) e
next (y ∷ ys) (suc i) x h = ap (λ zs. y ∷ zs) (next ys i x h)

pub one_more : (xs copied new : List Outcome) (i : ℕ) (x y : Outcome) → copied ≡ take i xs → slice_get xs i ≡ Some x → y ≡ x → new ≡ copied ++ y ∷ [] → new ≡ take (i + 1) xs
one_more xs copied new i x y h at same is = rw add-one (let n = next xs i x at in (cc))

pub there : (xs : List Outcome) (i : ℕ) → i < length xs → slice_get xs i ≡ None → ⊥
there [] i l h = absurd (omega arith)
there (x ∷ xs) zero l h = (cc)
there (x ∷ xs) (suc i) l h = there xs i (omega arith) h

whole : (xs : List Outcome) (i : ℕ) → length xs ≤ i → take i xs ≡ xs
whole [] zero l = refl
whole [] (suc i) l = refl
whole (x ∷ xs) zero l = absurd (omega arith)
whole (x ∷ xs) (suc i) l = ap (λ ys. x ∷ ys) (whole xs i (omega arith))

pub all_done : (xs copied : List Outcome) (i : ℕ) → copied ≡ take i xs → length xs ≤ i → copied ≡ xs
all_done xs copied i h l = let w = whole xs i l in (cc)
