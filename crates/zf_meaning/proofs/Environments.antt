-- A type has one carrier, and globals at the same sizes, with the same numbers, have one list of outcomes.
use Rattle.zf_meaning.proofs.Prelude.{◌<◌, ◌∙◌, ◌∷◌, ◌≡◌, ◌≤◌, [], ap, arith, length, List, None, Option, refl, Some, subst, suc, sym, take, zero, ℕ, slice_get, HasOne, one_set, AreElements, IsCross, IsPower, members, Outcome, abbreviation, constructor, Definition, free_type, given_set, schema, basic, int, no_types, power, product, Ty, type, Tys, AreCarriers, IsCarrier, IsTypeSetIf, AreElementsIf, before, element_count, Environment, globally, type_number, AreWorkedOut, IsOutcomeOf, OnOne, OnSeveral, Several, Num}
use Rattle.zf_value.proofs.Once as once
use Rattle.zf_meaning.proofs.Unique.{one_number_set, one_outcome, one_on_one, one_on_several}

one_elements : (n k : ℕ) → HasOne (AreElements n k)
unfolding AreElements
one_elements n k o p h m = one_set _ o p h m

one_elements_if : (n : ℕ) (k : Option ℕ) → HasOne (AreElementsIf n k)
one_elements_if n None o p h m = h ∙ sym m
one_elements_if n (Some k) o p h m = one_elements n k o p h m

one_type_set : (e : Environment) (n : Option ℕ) → HasOne (IsTypeSetIf e n)
one_type_set e None o p h m = h ∙ sym m
one_type_set e (Some n) o p h m = one_elements_if n (element_count e n) o p h m

mutual
  pub one_carrier : (e : Environment) (t : Ty) (o p : Outcome) → IsCarrier e t o → IsCarrier e t p → o ≡ p
  one_carrier e int o p h k = one_number_set e.numbers Num o p h k
  one_carrier e (basic name) o p h k = one_type_set e (type_number e name) o p h k
  one_carrier e (power t) o p h k =
      let x = one_carrier e t h.0 k.0 h.1 k.1 in
      one_on_one k.0 (λ v. IsPower (members v)) (λ v. once.one_Power (members v)) o p (subst (λ u. OnOne u (λ v. IsPower (members v)) o) x h.2) k.2
  one_carrier e (product ts) o p h k =
      let s = one_carriers e ts h.0 k.0 h.1 k.1 in
      one_on_several k.0 IsCross once.one_Cross o p (subst (λ u. OnSeveral u IsCross o) s h.2) k.2

  one_carriers : (e : Environment) (ts : Tys) (s r : Several) → AreCarriers e ts s → AreCarriers e ts r → s ≡ r
  one_carriers e no_types s r h k = h ∙ sym k
  one_carriers e (type t ts) s r h k =
      let x = one_carrier e t h.0 k.0 h.2 k.2 in
      let y = one_carriers e ts h.1 k.1 h.3 k.3 in
      (cc)

-- ---- outcomes of globals

one_outcome_of : (e : Environment) (d : Definition) → HasOne (IsOutcomeOf e d)
one_outcome_of e (given_set n) o p h k = one_elements_if n (element_count e n) o p h k
one_outcome_of e (free_type n names) o p h k = one_elements_if n (element_count e n) o p h k
one_outcome_of e (constructor n of_type place) o p h k = h ∙ sym k
one_outcome_of e (abbreviation t r x) o p h k = one_outcome (globally e) r o p h k
one_outcome_of e (schema a) o p h k = h ∙ sym k

found : {A : Type 0} (xs : List A) (i : ℕ) → i < length xs → (x : A) × (slice_get xs i ≡ Some x)
found [] i h = absurd (omega arith)
found (x ∷ xs) zero h = (x, refl)
found (x ∷ xs) (suc i) h = found xs i (omega arith)

-- two lists that are alike up to a place and at it
take_more : {A : Type 0} (xs ys : List A) (n : ℕ) → take n xs ≡ take n ys → slice_get xs n ≡ slice_get ys n → take (suc n) xs ≡ take (suc n) ys
take_more [] [] n h k = refl
take_more [] (y ∷ ys) zero h k = (cc)
take_more [] (y ∷ ys) (suc n) h k = (cc)
take_more (x ∷ xs) [] zero h k = (cc)
take_more (x ∷ xs) [] (suc n) h k = (cc)
take_more (x ∷ xs) (y ∷ ys) zero h k = (cc)
take_more (x ∷ xs) (y ∷ ys) (suc n) h k =
    let a : x ≡ y = (cc) in
    let b : take n xs ≡ take n ys = (cc) in
    let c = take_more xs ys n b k in
    (cc)

take_all : {A : Type 0} (xs : List A) (n : ℕ) → n ≡ length xs → take n xs ≡ xs
take_all [] zero h = refl
take_all [] (suc n) h = refl
take_all (x ∷ xs) zero h = absurd (omega arith)
take_all (x ∷ xs) (suc n) h = ap (λ ys. x ∷ ys) (take_all xs n (omega arith))

same_before : (e f : Environment) (n : ℕ) → e.globals ≡ f.globals → e.sizes ≡ f.sizes → e.numbers ≡ f.numbers → take n e.outcomes ≡ take n f.outcomes → before e n ≡ before f n
same_before e f n g s m t = λ i. record { globals = g i; sizes = s i; outcomes = t i; numbers = m i }

fronts : (e f : Environment) → e.globals ≡ f.globals → e.sizes ≡ f.sizes → e.numbers ≡ f.numbers → AreWorkedOut e → AreWorkedOut f → (n : ℕ)
    → n ≤ length e.globals → take n e.outcomes ≡ take n f.outcomes
fronts e f g s m h k zero l = refl
fronts e f g s m h k (suc n) l =
    let rest = fronts e f g s m h k n (omega (arith, l)) in
    let d = found e.globals n (omega (arith, l)) in
    let a = h.1 n d.0 d.1 in
    let b = k.1 n d.0 (ap (λ x. slice_get x n) (sym g) ∙ d.1) in
    let o = one_outcome_of (before f n) d.0.definition a.0 b.0 (subst (λ x. IsOutcomeOf x d.0.definition a.0) (same_before e f n g s m rest) a.2) b.2 in
    take_more e.outcomes f.outcomes n rest (a.1 ∙ ap Some o ∙ sym b.1)

pub one_environment : (e f : Environment) → e.globals ≡ f.globals → e.sizes ≡ f.sizes → e.numbers ≡ f.numbers → AreWorkedOut e → AreWorkedOut f → e.outcomes ≡ f.outcomes
one_environment e f g s m h k =
    let n = length e.globals in
    sym (take_all e.outcomes n (sym h.0)) ∙ fronts e f g s m h k n (omega arith) ∙ take_all f.outcomes n (ap length g ∙ sym k.0)
