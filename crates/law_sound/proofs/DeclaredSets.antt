-- What is a member of the declared sets of a component is of its type, where it can be listed.
use Rattle.law_sound.proofs.Prelude.{◌+◌, ◌^◌, ◌↔◌, ◌∙◌, ◌∷◌, ◌≡◌, ◌⊎◌, [], ap, arith, Bool, false, inl, inr, List, None, Option, refl, Some, subst, sym, take, true, ℕ, ℤ, ⊎_elim, ints, none-some, same_Some, w64, ◌<ℤ◌, ◌≤ℤ◌, FitsSigned, negsuc, pos, slice_get, number_of-Int, same_number, number_of, IsMember, members, Outcome, Is, Int, Value, Tree, carrier, DeclaredSet, DeclaredSets, Defined, no_sets, plain, set, sides, ResolvedTree, int, power, Ty, Infinite, resolved, set_sort, IsOf, direct, outside, AreWellTyped, Environment, globally, HasOutcome, IsOfType, IsIn, IsInCarrier, IsInPlain, IsInSet, IsInSets, Nat, Nat1, Num, cases_lt, has_endless, infinite_in, unended}
use Rattle.law_sound.proofs.Carriers.{carrier_typed}
use Rattle.law_sound.proofs.Directs.{are_numbers}
use Rattle.law_sound.proofs.Globals.{in_front}
use Rattle.law_sound.proofs.Names.{Fits, HasValues}
use Rattle.law_sound.proofs.OfTypes.{members_of}
use Rattle.law_sound.proofs.Terms.{term_typed}

abbrev pub IsSome : DeclaredSets → Type 0
IsSome no_sets = ⊥
IsSome (set d ds) = Unit {0}

-- the set is one for a component of the type
abbrev mutual
  pub IsSetFor : List Defined → Ty → DeclaredSet → Type 0
  IsSetFor g t (plain r) = (n : ℕ) × (a : Tree) × IsOf (outside (take n g)) a (set_sort t) × (r ≡ resolved (outside (take n g)) a)
  IsSetFor g t (carrier u) = u ≡ t
  IsSetFor g t (sides ds es) = (IsSome ds × AreSetsFor g t ds) × (IsSome es × AreSetsFor g t es)

  pub AreSetsFor : List Defined → Ty → DeclaredSets → Type 0
  AreSetsFor g t no_sets = Unit {0}
  AreSetsFor g t (set d ds) = IsSetFor g t d × AreSetsFor g t ds

-- ---- numbers that do not fit

fits_or_not : (n : ℤ) → FitsSigned w64 n ⊎ (FitsSigned w64 n → ⊥)
fits_or_not (pos k) = ⊎_elim (λ l. inl (record { sfits = l })) (λ l. inr (λ f. let s = f.sfits in omega (arith, l, s))) (cases_lt k (2 ^ 63))
fits_or_not (negsuc k) = ⊎_elim (λ l. inl (record { sfits = l })) (λ l. inr (λ f. let s = f.sfits in omega (arith, l, s))) (cases_lt k (2 ^ 63))

-- a number of more than 64 bits, where the type is that of numbers
abbrev IsFar : Ty → Value → Type 0
IsFar t v = (t ≡ int) × ((n : ℤ) × (v ≡ Int n) × (FitsSigned w64 n → ⊥))

not_far : (e : Environment) (n : ℤ) → (FitsSigned w64 n → ⊥) → IsOfType e int (Int n) → ⊥
not_far e n far h = far (subst (FitsSigned w64) (sym (same_number n h.0 h.1)) h.2)

of_power : (t : Ty) → power t ≡ power int → t ≡ int
of_power t q = cc

from_infinite : (s : Infinite) (v : Value) → IsIn s v → (n : ℤ) × (v ≡ Int n)
from_infinite Num v h = h
from_infinite Nat v h = (h.0, h.1)
from_infinite Nat1 v h = (h.0, h.1)

infinite_numbers : (d : Option Infinite) (n : Option ℕ) (s : Infinite) → unended d n ≡ Some s → d ≡ Some s
infinite_numbers None n s e = absurd (none-some s e)
infinite_numbers (Some r) None s e = e
infinite_numbers (Some r) (Some n) s e = absurd (none-some s e)

-- of an infinite set each greater number is a member too
upward : (s : Infinite) (n m : ℤ) → n ≤ℤ m → IsIn s (Int n) → IsIn s (Int m)
upward Num n m l h = (m, refl)
upward Nat n m l h = let e = same_number n h.0 h.1 in let k = h.2 in (m, refl, omega (arith, ints, l, e, k))
upward Nat1 n m l h = let e = same_number n h.0 h.1 in let k = h.2 in (m, refl, omega (arith, ints, l, e, k))

-- ---- lists

abbrev above : (o : Option ℤ) (b : ℕ) → ℕ
above None b = b
above (Some (pos k)) b = b + k + 1
above (Some (negsuc k)) b = b + 1

abbrev bound : List Value → ℕ
bound [] = 0
bound (x ∷ xs) = above (number_of x) (bound xs)

is_above : (n : ℤ) (o : Option ℤ) (b : ℕ) → o ≡ Some n → n <ℤ pos (above o b)
is_above n None b h = absurd (none-some n h)
is_above n (Some (pos k)) b h = let s = same_Some (pos k) n h in subst (λ m. m <ℤ pos (b + k + 1)) s (omega (arith, ints))
is_above n (Some (negsuc k)) b h = let s = same_Some (negsuc k) n h in subst (λ m. m <ℤ pos (b + 1)) s (omega (arith, ints))

further : (n : ℤ) (o : Option ℤ) (b : ℕ) → n <ℤ pos b → n <ℤ pos (above o b)
further n None b h = h
further n (Some (pos k)) b h = omega (arith, ints, h)
further n (Some (negsuc k)) b h = omega (arith, ints, h)

bounded : (xs : List Value) (n : ℤ) → IsMember (Int n) xs → n <ℤ pos (bound xs)
bounded [] n m = absurd m
bounded (x ∷ xs) n m =
    ⊎_elim (λ s. is_above n (number_of x) (bound xs) (ap number_of s ∙ number_of-Int n)) (λ k. further n (number_of x) (bound xs) (bounded xs n k)) m

-- ---- declared sets

module _ (e : Environment) (well : AreWellTyped e.globals) (typed : (i : ℕ) (d : Defined) (o : Outcome) → slice_get e.globals i ≡ Some d → slice_get e.outcomes i ≡ Some o → HasValues e d o) where
  fits : (n : ℕ) → Fits e (outside (take n e.globals)) (globally e)
  fits n = record {
    globals = λ i d o at there. typed i d o (in_front n i e.globals d at).1 there;
    comps = λ i d v at there. absurd (none-some d at);
    locals = refl;
  }

  in_outcome : (t : Ty) (r : ResolvedTree) (v w : Value) → IsSetFor e.globals t (plain r) → HasOutcome (globally e) r (Is w) → IsMember v (members w) → IsOfType e t v
  in_outcome t r v w k h m =
      (members_of e t w (term_typed e (outside (take k.0 e.globals)) (globally e) k.1 (set_sort t) w (fits k.0) k.2 (subst (λ q. HasOutcome (globally e) q (Is w)) k.3 h))).each v m

  in_plain : (t : Ty) (r : ResolvedTree) (v : Value) → IsSetFor e.globals t (plain r) → (o : Option Infinite) → infinite_in e r ≡ o → IsInPlain e o r v → IsOfType e t v ⊎ IsFar t v
  in_plain t r v k None is h = inl (in_outcome t r v h.0 k h.1 h.2)
  in_plain t r v k (Some s) is h =
      let number = from_infinite s v h in
      let same : t ≡ int = of_power t (are_numbers e.globals well k.0 k.1 (power t) s k.2 (sym (ap (direct e.globals) k.3) ∙ infinite_numbers (direct e.globals r) e.numbers s is)) in
      ⊎_elim (λ f. inl (subst (λ u. IsOfType e u v) (sym same) (number.0, number.1, f))) (λ f. inr (same, (number.0, number.1, f))) (fits_or_not number.0)

  in_carrier : (t u : Ty) (v : Value) → u ≡ t → (b : Bool) → IsInCarrier e b u v → IsOfType e t v
  in_carrier t u v same true h = subst (λ s. IsOfType e s v) same h
  in_carrier t u v same false h = subst (λ s. IsOfType e s v) same ((members_of e u h.0 (carrier_typed e u h.0 h.1)).each v h.2)

  mutual
    in_set : (t : Ty) (d : DeclaredSet) (v : Value) → IsSetFor e.globals t d → IsInSet e d v → IsOfType e t v ⊎ IsFar t v
    in_set t (plain r) v k h = in_plain t r v k (infinite_in e r) refl h
    in_set t (carrier u) v k h = inl (in_carrier t u v k (has_endless e.numbers u) h)
    in_set t (sides ds es) v k h = ⊎_elim (λ m. in_sets t ds v k.0.0 k.0.1 m) (λ m. in_sets t es v k.1.0 k.1.1 m) h

    -- the first of them tells
    in_sets : (t : Ty) (ds : DeclaredSets) (v : Value) → IsSome ds → AreSetsFor e.globals t ds → IsInSets e ds v → IsOfType e t v ⊎ IsFar t v
    in_sets t no_sets v some k h = absurd some
    in_sets t (set d ds) v some k h = in_set t d v k.0 h.0

  -- where a number of more than 64 bits lies, each greater one does
  far_plain : (r : ResolvedTree) (n m : ℤ) → IsSetFor e.globals int (plain r) → (FitsSigned w64 n → ⊥) → n ≤ℤ m → (o : Option Infinite) → IsInPlain e o r (Int n) → IsInPlain e o r (Int m)
  far_plain r n m k far l None h = absurd (not_far e n far (in_outcome int r (Int n) h.0 k h.1 h.2))
  far_plain r n m k far l (Some s) h = upward s n m l h

  mutual
    far_set : (d : DeclaredSet) (n m : ℤ) → IsSetFor e.globals int d → (FitsSigned w64 n → ⊥) → n ≤ℤ m → IsInSet e d (Int n) → IsInSet e d (Int m)
    far_set (plain r) n m k far l h = far_plain r n m k far l (infinite_in e r) h
    far_set (carrier u) n m k far l h = absurd (not_far e n far (in_carrier int u (Int n) k (has_endless e.numbers u) h))
    far_set (sides ds es) n m k far l h = ⊎_elim (λ p. inl (far_sets ds n m k.0.1 far l p)) (λ p. inr (far_sets es n m k.1.1 far l p)) h

    far_sets : (ds : DeclaredSets) (n m : ℤ) → AreSetsFor e.globals int ds → (FitsSigned w64 n → ⊥) → n ≤ℤ m → IsInSets e ds (Int n) → IsInSets e ds (Int m)
    far_sets no_sets n m k far l h = tt
    far_sets (set d ds) n m k far l h = (far_set d n m k.0 far l h.0, far_sets ds n m k.1 far l h.1)

  pub listed_typed : (t : Ty) (ds : DeclaredSets) (xs : List Value) → IsSome ds → AreSetsFor e.globals t ds → ((v : Value) → IsMember v xs ↔ IsInSets e ds v)
      → (v : Value) → IsMember v xs → IsOfType e t v
  listed_typed t ds xs some k all v m = ⊎_elim (λ h. h) (λ far. absurd (never far)) (in_sets t ds v some k ((all v).0 m))
    where
      never : IsFar t v → ⊥
      never far =
          let n = far.1.0 in
          let low = bounded xs n (subst (λ w. IsMember w xs) far.1.1 m) in
          let top = pos (bound xs) in
          let there = far_sets ds n top (subst (λ u. AreSetsFor e.globals u ds) far.0 k) far.1.2 (omega (arith, ints, low)) (subst (IsInSets e ds) far.1.1 ((all v).0 m)) in
          let high = bounded xs top ((all (Int top)).1 there) in
          omega (arith, ints, high)
