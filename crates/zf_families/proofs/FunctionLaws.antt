-- The laws of functions and of injections, and which pairs fit.
use Rattle.zf_families.proofs.Prelude.{◌∙◌, ◌∷◌, ◌≡◌, [], ap, Equal, Greater, inl, inr, Less, List, not, Ordering, refl, subst, sym, true, ⊎_elim, and_from, and_parts, false≢true, tied_itself, is_eq, exact, IsBetween, IsFunctional, IsInjective, pair, Relates, IsMember, value_order, Value, outs-Tuple, fits_any, fits_apart, second, second_at, total-law}
use Rattle.zf_families.proofs.Comparisons.{pair_parts}
use Rattle.zf_families.proofs.Functions.{IsFree, IsLaw}

functional_more : (x y : Value) (r : List Value) → IsFree r x → IsFunctional r → IsFunctional (pair x y ∷ r)
functional_more x y r alone h u v w m n = ⊎_elim
    (λ e. ⊎_elim
    (λ k. sym (pair_parts x y u v e).1 ∙ (pair_parts x y u w k).1)
    (λ k. absurd (alone w (subst (λ t. IsMember (pair t w) r) (sym (pair_parts x y u v e).0) k)))
    n)
    (λ l. ⊎_elim
    (λ k. absurd (alone v (subst (λ t. IsMember (pair t v) r) (sym (pair_parts x y u w k).0) l)))
    (λ k. h u v w l k)
    n)
    m

functional_less : (x y : Value) (r : List Value) → IsFunctional (pair x y ∷ r) → IsFunctional r
functional_less x y r h u v w m n = h u v w (inr m) (inr n)

pub functions : IsLaw fits_any IsFunctional
functions = record {
  functional = λ r h. h;
  empty = λ x y z m. absurd m;
  less = λ x y r alone h. functional_less x y r h;
  fits = λ a b x y r alone between h. refl;
  more = λ x y r alone h e. functional_more x y r alone h;
}

-- ---- injections

pub second-pair : (x y : Value) → second (pair x y) ≡ y
second-pair x y = ap (second_at (pair x y)) (outs-Tuple (x ∷ y ∷ []))

-- y is the second of no pair
abbrev pub IsUnused : List Value → Value → Type 0
IsUnused r y = (u : Value) → Relates r u y → ⊥

pub unused_from : (x y : Value) (r : List Value) → fits_apart (pair x y) r ≡ true → IsUnused r y
unused_from x y [] e u m = absurd m
unused_from x y (q ∷ r) e u m =
    let both = and_parts (not (is_eq (value_order (second (pair x y)) (second q)))) (fits_apart (pair x y) r) e in
    ⊎_elim
    (λ k.
    let one : value_order (second (pair x y)) (second q) ≡ Equal =
    ap (λ t. value_order (second (pair x y)) (second t)) k ∙ ap (λ t. value_order t (second (pair u y))) (second-pair x y) ∙ ap (value_order y) (second-pair u y) ∙ tied_itself total-law y in
    absurd (false≢true (sym (ap (λ o. not (is_eq o)) one) ∙ both.0)))
    (λ n. unused_from x y r both.1 u n) m

not_eq : (o : Ordering) → (o ≡ Equal → ⊥) → not (is_eq o) ≡ true
not_eq Less f = refl
not_eq Equal f = absurd (f refl)
not_eq Greater f = refl

pub unused_to : (a b : List Value) (x y : Value) (r : List Value) → IsBetween a b r → IsUnused r y → fits_apart (pair x y) r ≡ true
unused_to a b x y [] h f = refl
unused_to a b x y (q ∷ r) h f =
    let p = h q (inl refl) in
    and_from (not (is_eq (value_order (second (pair x y)) (second q)))) (fits_apart (pair x y) r)
    (not_eq (value_order (second (pair x y)) (second q)) (λ e.
    let one : y ≡ p.1 = sym (second-pair x y) ∙ exact (second (pair x y)) (second q) e ∙ ap second p.2 ∙ second-pair p.0 p.1 in
    f p.0 (inl (p.2 ∙ ap (pair p.0) (sym one)))))
    (unused_to a b x y r (λ z m. h z (inr m)) (λ u m. f u (inr m)))

pub injective_more : (x y : Value) (r : List Value) → IsUnused r y → IsInjective r → IsInjective (pair x y ∷ r)
injective_more x y r unused h u v w m n = ⊎_elim
    (λ e. ⊎_elim
    (λ k. sym (pair_parts x y u w e).0 ∙ (pair_parts x y v w k).0)
    (λ k. absurd (unused v (subst (λ t. IsMember (pair v t) r) (sym (pair_parts x y u w e).1) k)))
    n)
    (λ l. ⊎_elim
    (λ k. absurd (unused u (subst (λ t. IsMember (pair u t) r) (sym (pair_parts x y v w k).1) l)))
    (λ k. h u v w l k)
    n)
    m

pub injections : IsLaw fits_apart (λ r. IsFunctional r × IsInjective r)
injections = record {
  functional = λ r h. h.0;
  empty = (λ x y z m. absurd m, λ x y z m. absurd m);
  less = λ x y r alone h. (functional_less x y r h.0, λ u v w m n. h.1 u v w (inr m) (inr n));
  fits = λ a b x y r alone between h. unused_to a b x y r between (λ u m. alone y (subst (λ t. IsMember (pair t y) r) (sym (h.1 x u y (inl refl) (inr m))) m));
  more = λ x y r alone h e. (functional_more x y r alone h.0, injective_more x y r (unused_from x y r e) h.1);
}
