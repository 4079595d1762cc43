-- What stands in a list that goes on.
use Rattle.zf_checker.proofs.Prelude.{◌++◌, ◌∷◌, ◌≡◌, ◌⊎◌, [], ap, inl, inr, length, List, refl, slice_get, Some, suc, take, zero, ℕ, none-some, same_Some}

-- what stands in a list stands in one that goes on
pub in_front : {A : Type 0} (xs ys : List A) (i : ℕ) (x : A) → slice_get xs i ≡ Some x → slice_get (xs ++ ys) i ≡ Some x
in_front [] ys i x at = absurd (none-some x at)
in_front (y ∷ xs) ys zero x at = at
in_front (y ∷ xs) ys (suc i) x at = in_front xs ys i x at

-- what goes on stands after what was
pub at_seam : {A : Type 0} (xs : List A) (y : A) (ys : List A) → slice_get (xs ++ y ∷ ys) (length xs) ≡ Some y
at_seam [] y ys = refl
at_seam (x ∷ xs) y ys = at_seam xs y ys

-- what stands in a list with one more stood there before, or is the one, after the whole list
pub before_or_last :
    {A : Type 0} (xs : List A) (y : A) (i : ℕ) (x : A) → slice_get (xs ++ y ∷ []) i ≡ Some x
    → ((slice_get xs i ≡ Some x) × (take i (xs ++ y ∷ []) ≡ take i xs)) ⊎ ((y ≡ x) × (take i (xs ++ y ∷ []) ≡ xs))
before_or_last [] y zero x at = inr (same_Some y x at, refl)
before_or_last [] y (suc i) x at = absurd (none-some x at)
before_or_last (z ∷ xs) y zero x at = inl (at, refl)
before_or_last (z ∷ xs) y (suc i) x at =
    elim (before_or_last xs y i x at) [
      | inl p ↦ inl (p.0, ap (λ front. z ∷ front) p.1)
      | inr p ↦ inr (p.0, ap (λ front. z ∷ front) p.1)
    ]
