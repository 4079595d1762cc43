-- A text names components at one list of places, or none; so one list of components is shown.
use Rattle.law_answered.proofs.Prelude.{◌∙◌, ◌∷◌, ◌≡◌, ◌≢◌, ◌⊎◌, [], ap, inl, inr, List, map, None, Option, refl, Some, subst, sym, ℕ, cases_eq, AllPairs, AllPairs-cons, AllPairs-head, AllPairs-nil, AllPairs-tail, Contains, Contains-cases, Contains-head, Contains-later, Contains-nil, Comp, AreShown, NamesNoParts, NamesParts, component_place, comps_at, names_between}

-- ---- one list

same_places : (ps qs : List ℕ) → map Some ps ≡ map Some qs → ps ≡ qs
same_places [] [] is = refl
same_places [] (q ∷ qs) is = cc
same_places (p ∷ ps) [] is = cc
same_places (p ∷ ps) (q ∷ qs) is =
    let head : p ≡ q = cc in
    let tail : map Some ps ≡ map Some qs = cc in
    ap (λ n. n ∷ ps) head ∙ ap (λ ns. q ∷ ns) (same_places ps qs tail)

pub one_places : (comps : List Comp) (text : List ℕ) (ps qs : List ℕ) → NamesParts comps text ps → NamesParts comps text qs → ps ≡ qs
one_places comps text ps qs x y = same_places ps qs (sym x.named ∙ y.named)

pub one_list_shown : (comps : List Comp) (only : Option (List ℕ)) (shown other : List Comp) → AreShown comps only shown → AreShown comps only other → shown ≡ other
one_list_shown comps None shown other x y = x ∙ sym y
one_list_shown comps (Some text) shown other (ps, x, is) (qs, y, also) = is ∙ ap (comps_at comps) (one_places comps text ps qs x y) ∙ sym also

pub none_shown : (comps : List Comp) (only : Option (List ℕ)) (shown : List Comp) → NamesNoParts comps only → AreShown comps only shown → ⊥
none_shown comps None shown none are = none
none_shown comps (Some text) shown none (ps, x, is) = none ps x

-- ---- some list, or none

module _ (f : List ℕ → Option ℕ) where
  abbrev HasPlaces : List (List ℕ) → Type 0
  HasPlaces names = ((places : List ℕ) × (map f names ≡ map Some places)) ⊎ ((places : List ℕ) → map f names ≡ map Some places → ⊥)

  none_first : (rest : List (Option ℕ)) (places : List ℕ) → None ∷ rest ≡ map Some places → ⊥
  none_first rest [] is = cc
  none_first rest (p ∷ places) is = cc

  none_behind : (place : ℕ) (rest : List (Option ℕ)) → ((places : List ℕ) → rest ≡ map Some places → ⊥) → (places : List ℕ) → Some place ∷ rest ≡ map Some places → ⊥
  none_behind place rest none [] is = cc
  none_behind place rest none (p ∷ places) is = none places (cc)

  with_first : (name : List ℕ) (names : List (List ℕ)) (o : Option ℕ) → f name ≡ o → HasPlaces names → HasPlaces (name ∷ names)
  with_first name names None is others = inr (λ places e. none_first (map f names) places (ap (λ p. p ∷ map f names) (sym is) ∙ e))
  with_first name names (Some place) is (inl (places, e)) = inl (place ∷ places, ap (λ p. p ∷ map f names) is ∙ ap (λ ps. Some place ∷ ps) e)
  with_first name names (Some place) is (inr none) = inr (λ places e. none_behind place (map f names) none places (ap (λ p. p ∷ map f names) (sym is) ∙ e))

  has_places : (names : List (List ℕ)) → HasPlaces names
  has_places [] = inl ([], refl)
  has_places (name ∷ names) = with_first name names (f name) refl (has_places names)

contains_or_not : (ps : List ℕ) (p : ℕ) → Contains ps p ⊎ (Contains ps p → ⊥)
contains_or_not [] p = inr (Contains-nil p)
contains_or_not (q ∷ ps) p = elim (cases_eq q p) [
  | inl same ↦ inl (subst (Contains (q ∷ ps)) same (Contains-head q ps))
  | inr other ↦ elim (contains_or_not ps p) [
    | inl m ↦ inl (Contains-later q ps p m)
    | inr none ↦ inr (λ m. elim (Contains-cases q ps p m) [ inl same ↦ other same | inr n ↦ none n ])
  ]
]

abbrev Differ : ℕ → ℕ → Type 0
Differ i j = i ≢ j

differ_or_not : (ps : List ℕ) → AllPairs Differ ps ⊎ (AllPairs Differ ps → ⊥)
differ_or_not [] = inl (AllPairs-nil Differ)
differ_or_not (p ∷ ps) = elim (differ_or_not ps) [
  | inr twice ↦ inr (λ h. twice (AllPairs-tail Differ p ps h))
  | inl once ↦ elim (contains_or_not ps p) [
    | inl m ↦ inr (λ h. AllPairs-head Differ p ps h p m refl)
    | inr none ↦ inl (AllPairs-cons Differ p ps (λ q m e. none (subst (Contains ps) (sym e) m)) once)
  ]
]

pub shown_or_none : (comps : List Comp) (only : Option (List ℕ)) → ((shown : List Comp) × AreShown comps only shown) ⊎ NamesNoParts comps only
shown_or_none comps None = inl (comps, refl)
shown_or_none comps (Some text) = elim (has_places (component_place comps) (names_between text)) [
  | inr none ↦ inr (λ places named. none places named.named)
  | inl there ↦ elim (differ_or_not there.0) [
    | inl once ↦ inl (comps_at comps there.0, (there.0, record { named = there.1; once = once }, refl))
    | inr twice ↦ inr (λ places named. twice (subst (AllPairs Differ) (same_places places there.0 (sym named.named ∙ there.1)) named.once))
  ]
]
