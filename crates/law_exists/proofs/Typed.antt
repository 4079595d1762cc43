-- Whether a value is of a type is decided.
use Rattle.law_exists.proofs.Prelude.{◌<◌, ◌∙◌, ◌∷◌, ◌≡◌, ◌≤◌, [], ap, inl, inr, length, List, None, Option, refl, Some, subst, sym, ℕ, ℤ, FitsSigned, slice_get, Less, IsAscending, members, parts, value_order, Elem, Int, SetOf, Tuple, Value, basic, int, no_types, power, product, Ty, type, Tys, Environment, type_number, Decided, decided_both, decided_same, decided_some, decided_le, listed_below, same_row, same_value, AllByRecursion, AreOfTypes, IsExistingElement, IsOfType, same_ordering}
use Rattle.std.specs.Int.{w64}
use Rattle.zf_value.specs.declared.TheConstants.{SET_MAX}
use Rattle.zf_value.proofs.Seen.{members-SetOf, parts-Tuple, same_number}
use Rattle.law_total.proofs.Numbers.{decided_fits, number_or_not}

decided_every : (P : Value → Type 0) → ((v : Value) → Decided (P v)) → (xs : List Value) → Decided (AllByRecursion P xs)
decided_every P d [] = inl tt
decided_every P d (x ∷ xs) = decided_both (d x) (decided_every P d xs)

decided_ascending : (xs : List Value) → Decided (IsAscending xs)
decided_ascending [] = inl tt
decided_ascending (x ∷ xs) = decided_both (decided_every (λ y. value_order x y ≡ Less) (λ y. same_ordering (value_order x y) Less) xs) (decided_ascending xs)

number_here : (v : Value) → Decided ((n : ℤ) × (v ≡ Int n) × FitsSigned w64 n)
number_here v = elim (number_or_not v) [
  | inl a ↦ decided_same (λ f. (a.0, a.1, f)) (λ h. subst (FitsSigned w64) (same_number h.0 a.0 (sym h.1 ∙ a.1)) h.2) (decided_fits w64 a.0)
  | inr n ↦ inr (λ h. n (h.0, h.1))
]

element_of : (x : Option ℕ) (n : ℕ) (v : Value) → Decided ((k i : ℕ) × (x ≡ Some k) × (i < k) × (v ≡ Elem n i))
element_of None n v = inr (λ h. let e = h.2 in (cc))
element_of (Some k) n v =
    decided_same (λ h. (k, h.0, refl, h.1, h.2)) (λ h. (h.1, (let e : k ≡ h.0 = (let s = h.2 in (cc)) in subst (λ j. h.1 < j) (sym e) h.3), h.4))
    (decided_some (λ i. v ≡ Elem n i) (listed_below k) (λ i. same_value v (Elem n i)))

decided_element : (e : Environment) (n : Option ℕ) (v : Value) → Decided (IsExistingElement e n v)
decided_element e None v = inr (λ h. h)
decided_element e (Some n) v = element_of (slice_get e.sizes n) n v

-- the value is the set of its members, with these
set_that : (P : Value → Type 0) → ((v : Value) → Decided (P v)) → (v : Value) → Decided ((xs : List Value) × (v ≡ SetOf xs) × IsAscending xs × (length xs ≤ SET_MAX) × AllByRecursion P xs)
set_that P d v = elim (same_value v (SetOf (members v))) [
  | inl e ↦
      decided_same (λ h. (members v, e, h.0, h.1.0, h.1.1)) (λ h. subst (λ xs. IsAscending xs × ((length xs ≤ SET_MAX) × AllByRecursion P xs)) (the_members h.0 h.1) (h.2, (h.3, h.4)))
      (decided_both (decided_ascending (members v)) (decided_both (decided_le (length (members v)) SET_MAX) (decided_every P d (members v))))
  | inr n ↦ inr (λ h. n (h.1 ∙ ap SetOf (the_members h.0 h.1)))
]
  where
    the_members : (xs : List Value) → v ≡ SetOf xs → xs ≡ members v
    the_members xs e = sym (ap members e ∙ members-SetOf xs)

tuple_that : (P : List Value → Type 0) → ((vs : List Value) → Decided (P vs)) → (v : Value) → Decided ((vs : List Value) × (v ≡ Tuple vs) × P vs)
tuple_that P d v = elim (same_value v (Tuple (parts v))) [
  | inl e ↦ decided_same (λ h. (parts v, e, h)) (λ h. subst P (the_parts h.0 h.1) h.2) (d (parts v))
  | inr n ↦ inr (λ h. n (h.1 ∙ ap Tuple (the_parts h.0 h.1)))
]
  where
    the_parts : (vs : List Value) → v ≡ Tuple vs → vs ≡ parts v
    the_parts vs e = sym (ap parts e ∙ parts-Tuple vs)

mutual
  pub decided_of_type : (e : Environment) (t : Ty) (v : Value) → Decided (IsOfType e t v)
  decided_of_type e int v = number_here v
  decided_of_type e (basic name) v = decided_element e (type_number e name) v
  decided_of_type e (power t) v = set_that (λ z. IsOfType e t z) (λ z. decided_of_type e t z) v
  decided_of_type e (product ts) v = tuple_that (λ vs. AreOfTypes e ts vs) (λ vs. decided_of_types e ts vs) v

  decided_of_types : (e : Environment) (ts : Tys) (vs : List Value) → Decided (AreOfTypes e ts vs)
  decided_of_types e no_types vs = same_row vs []
  decided_of_types e (type t ts) [] = inr (λ h. let e = h.2 in (cc))
  decided_of_types e (type t ts) (w ∷ ws) =
      decided_same (λ h. (w, ws, refl, h.0, h.1)) (λ h. let s = h.2 in let a : h.0 ≡ w = (cc) in let b : h.1 ≡ ws = (cc) in (subst (λ z. IsOfType e t z) a h.3, subst (λ zs. AreOfTypes e ts zs) b h.4))
      (decided_both (decided_of_type e t w) (decided_of_types e ts ws))
