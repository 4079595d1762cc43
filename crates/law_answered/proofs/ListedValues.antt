-- Each type has finitely many values, and there are finitely many rows of several types.
use Rattle.law_answered.proofs.Prelude.{◌<◌, ◌^◌, ◌∙◌, ◌∷◌, ◌≡◌, ◌≤◌, ◌⊎◌, [], inl, inr, length, List, None, Option, refl, Some, subst, sym, ℕ, ℤ, same_Some, FitsSigned, negsuc, pos, slice_get, SET_MAX, Elem, Int, SetOf, Tuple, Value, basic, int, no_types, power, product, Ty, type, Tys, Environment, type_number, AreOfTypes, IsExistingElement, IsOfType, Listed, listed_either, listed_image, listed_kept, listed_none, listed_one, listed_pairs, listed_same}
use Rattle.std.specs.Int.{w64}
use Rattle.zf_value.proofs.Among.{every_at, every_from}
use Rattle.law_total.proofs.Naturals.{decided_le, listed_below}
use Rattle.law_total.proofs.Sets.{listed_parts}

-- the numbers of 64 bits
numbers_listed : Listed (λ (z : ℤ). FitsSigned w64 z)
numbers_listed = listed_same (listed_either (listed_image pos (listed_below (2 ^ 63))) (listed_image negsuc (listed_below (2 ^ 63)))) (λ z. (to z, from z))
  where
    to : (z : ℤ) → ((n : ℕ) × (n < 2 ^ 63) × (pos n ≡ z)) ⊎ ((n : ℕ) × (n < 2 ^ 63) × (negsuc n ≡ z)) → FitsSigned w64 z
    to z (inl w) = subst (λ (z : ℤ). FitsSigned w64 z) w.2 (record { sfits = w.1 })
    to z (inr w) = subst (λ (z : ℤ). FitsSigned w64 z) w.2 (record { sfits = w.1 })

    from : (z : ℤ) → FitsSigned w64 z → ((n : ℕ) × (n < 2 ^ 63) × (pos n ≡ z)) ⊎ ((n : ℕ) × (n < 2 ^ 63) × (negsuc n ≡ z))
    from (pos n) f = inl (n, f.sfits, refl)
    from (negsuc n) f = inr (n, f.sfits, refl)

-- the elements of a given set or free type
elements_listed : (e : Environment) (number : Option ℕ) → Listed (IsExistingElement e number)
elements_listed e None = listed_none (IsExistingElement e None) (λ v h. h)
elements_listed e (Some n) = by (slice_get e.sizes n) refl
  where
    by : (o : Option ℕ) → slice_get e.sizes n ≡ o → Listed (IsExistingElement e (Some n))
    by None there = listed_none (IsExistingElement e (Some n)) (λ v w. let z : None ≡ Some w.0 = sym there ∙ w.2 in cc)
    by (Some k) there = listed_same (listed_image (λ i. Elem n i) (listed_below k)) (λ v. (
      λ w. (k, w.0, there, w.1, sym w.2),
      λ w. (w.1, subst (λ j. w.1 < j) (same_Some w.0 k (sym w.2 ∙ there)) w.3, sym w.4),
    ))

mutual
  -- the values of a type
  pub values_listed : (e : Environment) (t : Ty) → Listed (IsOfType e t)
  values_listed e int = listed_same (listed_image Int numbers_listed) (λ v. (λ w. (w.0, sym w.2, w.1), λ w. (w.0, w.2, sym w.1)))
  values_listed e (basic name) = elements_listed e (type_number e name)
  values_listed e (power t) =
      listed_same (listed_image SetOf (listed_kept (λ xs. length xs ≤ SET_MAX) (listed_parts (values_listed e t)) (λ xs. decided_le (length xs) SET_MAX))) (λ v. (
        λ w. (w.0, sym w.2, w.1.0.0, w.1.1, every_from (λ z. IsOfType e t z) w.0 w.1.0.1),
        λ w. (w.0, ((w.2, λ z m. every_at (λ z. IsOfType e t z) w.0 z w.4 m), w.3), sym w.1),
      ))
  values_listed e (product ts) = listed_same (listed_image Tuple (rows_listed e ts)) (λ v. (λ w. (w.0, sym w.2, w.1), λ w. (w.0, w.2, sym w.1)))

  -- the rows of several types
  pub rows_listed : (e : Environment) (ts : Tys) → Listed (AreOfTypes e ts)
  rows_listed e no_types = listed_same (listed_one []) (λ vs. (λ q. sym q, λ q. sym q))
  rows_listed e (type t ts) =
      listed_same (listed_image (λ (p : Value × List Value). p.0 ∷ p.1) (listed_pairs (λ w ws. AreOfTypes e ts ws) (values_listed e t) (λ w. rows_listed e ts))) (λ vs. (
        λ w. (w.0.0, w.0.1, sym w.2, w.1.0, w.1.1),
        λ w. ((w.0, w.1), (w.3, w.4), sym w.2),
      ))
