-- Values and members: what is decided of them, and what lists have.
use Rattle.law_total.proofs.Prelude.{◌↔◌, ◌∙◌, ◌∷◌, ◌≡◌, [], ap, Equal, Greater, inl, inr, Less, List, Ordering, refl, subst, sym, ordering_reverse, contained, member, not_below_itself, exact, parts-Tuple, AreFrom, pair, Relates, IsMember, members, parts, value_order, AreAmong, Value, total-law}
use Rattle.law_total.proofs.Listed.{Decided, decided_all, decided_in, decided_lists, Listed, listed_same, listed_none, listed_one, listed_some, listed_image, listed_pairs}

below_from_above : (x y : Value) → value_order x y ≡ Greater → value_order y x ≡ Less
below_from_above x y e = total-law.antisymm y x ∙ ap ordering_reverse e

at_order : (v w : Value) (o : Ordering) → value_order v w ≡ o → Decided (v ≡ w)
at_order v w Equal e = inl (exact v w e)
at_order v w Less e = inr (λ s. not_below_itself v (subst (λ u. value_order v u ≡ Less) (sym s) e))
at_order v w Greater e = inr (λ s. not_below_itself v (subst (λ u. value_order u v ≡ Less) (sym s) (below_from_above v w e)))

pub same_value : (v w : Value) → Decided (v ≡ w)
same_value v w = at_order v w (value_order v w) refl

pub same_row : (vs ws : List Value) → Decided (vs ≡ ws)
same_row vs ws = decided_lists same_value vs ws

pub listed_members : (xs : List Value) → Listed (λ z. IsMember z xs)
listed_members xs = record { list = xs; members = λ z. (λ m. member xs z m, λ m. contained xs z m) }

pub decided_member : (z : Value) (xs : List Value) → Decided (IsMember z xs)
decided_member z xs = decided_in same_value (listed_members xs) z

pub decided_among : (xs ys : List Value) → Decided (AreAmong xs ys)
unfolding AreAmong
decided_among xs ys = decided_all (λ z. IsMember z ys) (listed_members xs) (λ z. decided_member z ys)

-- ---- rows

pub listed_rows : (ss : List Value) → Listed (λ vs. AreFrom vs ss)
listed_rows [] = listed_same (listed_one []) (λ vs. no_row vs)
  where
    no_row : (vs : List Value) → ([] ≡ vs) ↔ AreFrom vs []
    no_row [] = (λ e. tt, λ h. refl)
    no_row (v ∷ vs) = (λ e. absurd (cc), λ h. absurd h)
listed_rows (s ∷ ss) =
    listed_same (listed_image (λ (p : Value × List Value). p.0 ∷ p.1) (listed_pairs (λ v vs. AreFrom vs ss) (listed_members (members s)) (λ v. listed_rows ss))) (λ vs. longer vs)
  where
    longer : (vs : List Value) → ((p : Value × List Value) × (IsMember p.0 (members s) × AreFrom p.1 ss) × (p.0 ∷ p.1 ≡ vs)) ↔ AreFrom vs (s ∷ ss)
    longer [] = (λ h. let e = h.2 in absurd (cc), λ h. absurd h)
    longer (v ∷ vs) = (λ h. subst (λ us. AreFrom us (s ∷ ss)) h.2 h.1, λ h. ((v, vs), h, refl))

-- ---- pairs

twice : (z x y : Value) → Decided (z ≡ pair x y) → ((u w : Value) → z ≡ pair u w → (u ≡ x) × (w ≡ y)) → Listed (λ (p : Value × Value). z ≡ pair p.0 p.1)
twice z x y (inl e) f = listed_same (listed_one (x, y)) (λ p. (λ s. subst (λ (q : Value × Value). z ≡ pair q.0 q.1) s e, λ s. let both = f p.0 p.1 s in (λ i. (sym both.0 i, sym both.1 i))))
twice z x y (inr n) f = listed_none (λ (p : Value × Value). z ≡ pair p.0 p.1) (λ p s. let both = f p.0 p.1 s in n (s ∙ ap (λ u. pair u p.1) both.0 ∙ ap (λ w. pair x w) both.1))

split : (z : Value) (ps : List Value) → parts z ≡ ps → Listed (λ (p : Value × Value). z ≡ pair p.0 p.1)
split z (x ∷ y ∷ []) e = twice z x y (same_value z (pair x y)) (λ u w s. let k = sym e ∙ ap parts s ∙ parts-Tuple (u ∷ w ∷ []) in ((cc), (cc)))
split z ps e = listed_none (λ (p : Value × Value). z ≡ pair p.0 p.1) (λ p s. let k = sym e ∙ ap parts s ∙ parts-Tuple (p.0 ∷ p.1 ∷ []) in (cc))

-- the pairs of a relation
pub listed_related : (r : List Value) → Listed (λ (p : Value × Value). Relates r p.0 p.1)
listed_related r =
    listed_same (listed_some (λ z (p : Value × Value). z ≡ pair p.0 p.1) (listed_members r) (λ z. split z (parts z) refl)) (λ p. (λ h. subst (λ z. IsMember z r) h.2 h.1, λ h. (pair p.0 p.1, h, refl)))
