-- A schema without a binding has one cause, but for which minimal set of conjuncts.
use Rattle.law_answered.proofs.Prelude.{◌<◌, ◌∙◌, ◌∷◌, ◌≡◌, [], ap, arith, Bool, false, inl, inr, length, List, Option, refl, Some, subst, suc, sym, true, zero, ℕ, slice_get, Value, Comp, Schema, Environment, ArePicked, EmptiedBy, HasChosen, HasNoValue, HasRow, HasValue, IsHeldRow, IsInHeldRange, RefutedBy, RefutedTogetherBy, RuleOut, first_held, held_later, later_held, slice_get_within}
use Rattle.zf_why.proofs.Lists.{some_at}

-- ---- what is picked

-- lists as long as each other that are alike at each place
same_places : (m n : List Bool) → length m ≡ length n → ((i : ℕ) → i < length m → slice_get m i ≡ slice_get n i) → m ≡ n
same_places [] [] l h = refl
same_places [] (c ∷ n) l h = absurd (omega arith)
same_places (b ∷ m) [] l h = absurd (omega arith)
same_places (b ∷ m) (c ∷ n) l h =
    let head : Some b ≡ Some c = h zero (omega arith) in
    let same : b ≡ c = cc in
    ap (λ z. z ∷ m) same ∙ ap (λ zs. c ∷ zs) (same_places m n (omega arith) (λ i k. h (suc i) (omega arith)))

module _ {A : Type 0} (P Q : ℕ → A → Type 0) (xs : List A) where
  -- where nothing is both, what is picked is one list
  pub picked_once : (m n : List Bool) → ((i : ℕ) (x : A) → P i x → Q i x → ⊥) → ArePicked P Q xs m → ArePicked P Q xs n → m ≡ n
  picked_once m n apart h k = same_places m n (h.each ∙ sym k.each) at where
    at : (i : ℕ) → i < length m → slice_get m i ≡ slice_get n i
    at i l =
        let x = some_at xs i (subst (λ z. i < z) h.each l) in
        elim (h.picked i x.0 x.1) [
          | inl (here, p) ↦ elim (k.picked i x.0 x.1) [ inl (there, p2) ↦ here ∙ sym there | inr (there, q) ↦ absurd (apart i x.0 p q) ]
          | inr (here, q) ↦ elim (k.picked i x.0 x.1) [ inl (there, p) ↦ absurd (apart i x.0 p q) | inr (there, q2) ↦ here ∙ sym there ]
        ]

  -- what is chosen has the first
  pub chosen_has : (m : List Bool) → ArePicked P Q xs m → HasChosen m → (i : ℕ) × (x : A) × (slice_get xs i ≡ Some x) × P i x
  chosen_has m h (i, chosen) =
      let x = some_at xs i (subst (λ z. i < z) h.each (slice_get_within m i true chosen)) in
      elim (h.picked i x.0 x.1) [ inl (here, p) ↦ (i, x.0, x.1, p) | inr (left, q) ↦ absurd (let z : Some true ≡ Some false = sym chosen ∙ left in cc) ]

-- ---- the causes exclude each other

-- in a row each component has a value
has_value : (e : Environment) (cs : List Comp) (held : List (Option Value)) (row : List Value) (i : ℕ) (c : Comp) → IsHeldRow e cs held row → slice_get cs i ≡ Some c → HasValue e held i c
has_value e [] held row i c within at = absurd (cc)
has_value e (d ∷ cs) held [] i c within at = absurd within
has_value e (d ∷ cs) held (v ∷ row) zero c within at = let same : d ≡ c = cc in (v, subst (λ z. IsInHeldRange e z (first_held held) v) same within.0)
has_value e (d ∷ cs) held (v ∷ row) (suc i) c within at =
    let w = has_value e cs (later_held held) row i c within.1 at in
    (w.0, subst (λ o. IsInHeldRange e c o w.0) (sym (held_later i held)) w.1)

module _ (e : Environment) (a : Schema) (held : List (Option Value)) where
  pub no_row_when_empty : (m : List Bool) → EmptiedBy e a held m → HasRow e a.comps held [] → ⊥
  no_row_when_empty m empty row =
      let c = chosen_has (HasNoValue e held) (HasValue e held) a.comps m empty.0 empty.1 in
      let v = has_value e a.comps held row.row c.0 c.1 row.within c.2 in
      c.3 v.0 v.1

  pub same_empty : (m n : List Bool) → EmptiedBy e a held m → EmptiedBy e a held n → m ≡ n
  same_empty m n x y = picked_once (HasNoValue e held) (HasValue e held) a.comps m n (λ i c none some. none some.0 some.1) x.0 y.0

  pub same_alone : (m n : List Bool) → RefutedBy e a held m → RefutedBy e a held n → m ≡ n
  same_alone m n x y = picked_once (λ i p. RuleOut e a.comps held (p ∷ [])) (λ i p. HasRow e a.comps held (p ∷ [])) a.conjuncts m n (λ i p none some. none some) x.1 y.1

  pub not_both : (m n : List Bool) → RefutedBy e a held m → RefutedTogetherBy e a held n → ⊥
  not_both m n alone together =
      let p = chosen_has (λ i p. RuleOut e a.comps held (p ∷ [])) (λ i p. HasRow e a.comps held (p ∷ [])) a.conjuncts m alone.1 alone.2 in
      p.3 (together.0 p.0 p.1 p.2)
