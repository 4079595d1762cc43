-- A part that is put at its place among others.
use Rattle.zf_parts.proofs.Prelude.{◌∷◌, ◌≡◌, ◌⊎◌, [], inl, inr, List, refl, subst, sym, slice_cmp, match_ordering, AllPairs, Contains, Ordering, Equal, Greater, Less, AllPairs-cons, AllPairs-head, AllPairs-tail, Contains-cases, Contains-head, Contains-later, Contains-nil, ComesAfter, value_order, Value, Part}
use Rattle.zf_parts.proofs.Orders.{comes_on, one_or_other, reversed, same_row}

abbrev pub Ascends : List Part → Type 0
Ascends parts = AllPairs (λ (p q : Part). ComesAfter value_order p.values q.values) parts

abbrev pub Follows : Part → Part → Type 0
Follows p q = ComesAfter value_order p.values q.values

abbrev pub put : Part → List Part → List Part
put p [] = p ∷ []
put p (q ∷ parts) = match_ordering (slice_cmp value_order p.values q.values) (p ∷ q ∷ parts) (p ∷ parts) (q ∷ put p parts)

-- none of them has these values
abbrev pub HasNone : List Value → List Part → Type 0
HasNone values parts = (p : Part) → Contains parts p → p.values ≡ values → ⊥

-- one of them has these values, or none
pub has_or_none : (values : List Value) (parts : List Part) → ((p : Part) × Contains parts p × (p.values ≡ values)) ⊎ HasNone values parts
has_or_none values [] = inr (λ p m e. Contains-nil p m)
has_or_none values (q ∷ parts) = elim (one_or_other q.values values) [
  | inl same ↦ inl (q, Contains-head q parts, same)
  | inr other ↦ elim (has_or_none values parts) [
    | inl (p, m, e) ↦ inl (p, Contains-later q parts p m, e)
    | inr none ↦ inr (λ p m e. elim (Contains-cases q parts p m) [ inl is ↦ other (subst (λ (r : Part). r.values ≡ values) (sym is) e) | inr n ↦ none p n e ])
  ]
]

module _ (p : Part) where
  pub in_put : (parts : List Part) → HasNone p.values parts → (r : Part) → Contains (put p parts) r → (p ≡ r) ⊎ Contains parts r
  in_put [] none r m = Contains-cases p [] r m
  in_put (q ∷ parts) none r m = go (slice_cmp value_order p.values q.values) refl m (in_put parts (λ s l. none s (Contains-later q parts s l)) r) where
    go : (o : Ordering) → slice_cmp value_order p.values q.values ≡ o → Contains (match_ordering o (p ∷ q ∷ parts) (p ∷ parts) (q ∷ put p parts)) r
        → (Contains (put p parts) r → (p ≡ r) ⊎ Contains parts r) → (p ≡ r) ⊎ Contains (q ∷ parts) r
    go Less e n ih = Contains-cases p (q ∷ parts) r n
    go Equal e n ih = absurd (none q (Contains-head q parts) (sym (same_row p.values q.values e)))
    go Greater e n ih = elim (Contains-cases q (put p parts) r n) [
      | inl is ↦ inr (subst (Contains (q ∷ parts)) is (Contains-head q parts))
      | inr k ↦ elim (ih k) [ inl same ↦ inl same | inr l ↦ inr (Contains-later q parts r l) ]
    ]

  pub put_in : (parts : List Part) → HasNone p.values parts → (r : Part) → (p ≡ r) ⊎ Contains parts r → Contains (put p parts) r
  put_in [] none r (inl same) = subst (Contains (p ∷ [])) same (Contains-head p [])
  put_in [] none r (inr m) = absurd (Contains-nil r m)
  put_in (q ∷ parts) none r m = go (slice_cmp value_order p.values q.values) refl (put_in parts (λ s l. none s (Contains-later q parts s l)) r) where
    go : (o : Ordering) → slice_cmp value_order p.values q.values ≡ o → ((p ≡ r) ⊎ Contains parts r → Contains (put p parts) r)
        → Contains (match_ordering o (p ∷ q ∷ parts) (p ∷ parts) (q ∷ put p parts)) r
    go Less e ih = elim m [ inl same ↦ subst (Contains (p ∷ q ∷ parts)) same (Contains-head p (q ∷ parts)) | inr n ↦ Contains-later p (q ∷ parts) r n ]
    go Equal e ih = absurd (none q (Contains-head q parts) (sym (same_row p.values q.values e)))
    go Greater e ih = elim m [
      | inl same ↦ Contains-later q (put p parts) r (ih (inl same))
      | inr n ↦ elim (Contains-cases q parts r n) [
        | inl is ↦ subst (Contains (q ∷ put p parts)) is (Contains-head q (put p parts))
        | inr k ↦ Contains-later q (put p parts) r (ih (inr k))
      ]
    ]

  pub put_ascends : (parts : List Part) → HasNone p.values parts → Ascends parts → Ascends (put p parts)
  put_ascends [] none o = AllPairs-cons Follows p [] (λ s m. absurd (Contains-nil s m)) o
  put_ascends (q ∷ parts) none o =
      go (slice_cmp value_order p.values q.values) refl (put_ascends parts (λ s l. none s (Contains-later q parts s l)) (AllPairs-tail Follows q parts o)) where
        go : (a : Ordering) → slice_cmp value_order p.values q.values ≡ a → Ascends (put p parts) → Ascends (match_ordering a (p ∷ q ∷ parts) (p ∷ parts) (q ∷ put p parts))
        go Less e ih = AllPairs-cons Follows p (q ∷ parts) (λ s m. elim (Contains-cases q parts s m) [
          | inl is ↦ subst (Follows p) is e
          | inr n ↦ comes_on p.values q.values s.values e (AllPairs-head Follows q parts o s n)
        ]) o
        go Equal e ih = absurd (none q (Contains-head q parts) (sym (same_row p.values q.values e)))
        go Greater e ih = AllPairs-cons Follows q (put p parts)
            (λ s m. elim (in_put parts (λ t l. none t (Contains-later q parts t l)) s m) [
              | inl same ↦ subst (Follows q) same (reversed p.values q.values e)
              | inr n ↦ AllPairs-head Follows q parts o s n
            ])
            ih
