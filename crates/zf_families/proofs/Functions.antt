-- The functions from a set to a set are the rows that take pairs with ascending firsts.
use Rattle.zf_families.proofs.Prelude.{◌↔◌, ◌∙◌, ◌∷◌, ◌≡◌, ◌⊎◌, [], ap, Bool, inl, inr, Less, List, map, refl, subst, sym, true, ⊎_elim, every_from, not_below_itself, IsBetween, IsFunctional, IsRelationThat, IsTotal, pair, Relates, IsAscending, IsMember, value_order, SetOf, Value, pairs, some, whole, AllByRecursion}
use Rattle.zf_families.proofs.Lists.{Each, each_map}
use Rattle.zf_families.proofs.InOrder.{IsLadder, ordered_some, ordered_whole}
use Rattle.zf_families.proofs.Told.{Tells, set_order}
use Rattle.zf_families.proofs.Chosen.{Takes, in_some, in_whole}
use Rattle.zf_families.proofs.Comparisons.{every_map, member_map, from_member_map, not_both, below_rest, pair_parts, first_below, pairs_ascending}

rest : (x : Value) (xs : List Value) → IsAscending (x ∷ xs) → IsAscending xs
rest x xs h = h.1

-- x is related to nothing
abbrev pub IsFree : List Value → Value → Type 0
IsFree r x = (y : Value) → Relates r x y → ⊥

-- a law of functions that a pair keeps where it fits
pub record IsLaw (f : Value → List Value → Bool) (Law : List Value → Type 0) : Type 0 where
  pub functional : (r : List Value) → Law r → IsFunctional r
  pub empty : Law []
  pub less : (x y : Value) (r : List Value) → IsFree r x → Law (pair x y ∷ r) → Law r
  pub fits : (a b : List Value) (x y : Value) (r : List Value) → IsFree r x → IsBetween a b r → Law (pair x y ∷ r) → f (pair x y) r ≡ true
  pub more : (x y : Value) (r : List Value) → IsFree r x → Law r → f (pair x y) r ≡ true → Law (pair x y ∷ r)

module _ (b : List Value) (f : Value → List Value → Bool) (Law : List Value → Type 0) (law : IsLaw f Law) where
  abbrev pub Goes : List Value → List Value → Type 0
  Goes a r = IsAscending r × IsBetween a b r × Law r

  none : (r : List Value) → Goes [] r ↔ ([] ≡ r)
  none [] = (λ h. refl, λ e. (tt, λ z m. absurd m, law.empty))
  none (p ∷ s) = (λ h. absurd (let q = h.1 p (inl refl) in q.3), λ e. (cc))

  -- where all pairs of r come from xs, all of which are above x, nothing is related to x
  free : (x : Value) (xs r : List Value) → IsAscending (x ∷ xs) → IsBetween xs b r → IsFree r x
  free x xs r g h y m = let q = h (pair x y) m in not_below_itself x (below_rest x xs x g (subst (λ u. IsMember u xs) (sym (pair_parts x y q.0 q.1 q.2).0) q.3))

  first_case : (x : Value) (xs : List Value) (y : Value) (s : List Value) → IsAscending (x ∷ xs) → IsMember y b → Goes (x ∷ xs) (pair x y ∷ s) → Takes f (pairs b x) (Goes xs) (pair x y ∷ s)
  first_case x xs y s g m h =
      let between : IsBetween xs b s = λ z n.
      let q = h.1 z (inr n) in (
        q.0,
        q.1,
        q.2,
        ⊎_elim
            (λ e.
            let there : IsMember (pair x q.1) (pair x y ∷ s) = inr (subst (λ u. IsMember u s) (q.2 ∙ ap (λ u. pair u q.1) (sym e)) n) in
            let same : y ≡ q.1 = law.functional (pair x y ∷ s) h.2 x y q.1 (inl refl) there in
            absurd (not_below_itself z (subst (λ u. value_order u z ≡ Less) (ap (pair x) same ∙ ap (λ u. pair u q.1) e ∙ sym q.2) (below_rest (pair x y) s z h.0 n))))
            (λ k. k) q.3,
        q.4,
      ) in
      let alone = free x xs s g between in
      (pair x y, s, refl, member_map (pair x) b y m, (h.0.1, between, law.less x y s alone h.2), law.fits xs b x y s alone between h.2)

  later_case : (x : Value) (xs : List Value) (p y : Value) (s : List Value) → IsAscending (x ∷ xs) → IsMember p xs → Goes (x ∷ xs) (pair p y ∷ s) → Goes xs (pair p y ∷ s)
  later_case x xs p y s g m h =
      let low = below_rest x xs p g m in (
        h.0,
        λ z n.
            let q = h.1 z n in (
              q.0,
              q.1,
              q.2,
              ⊎_elim
                  (λ e.
                  let under : value_order z (pair p y) ≡ Less = subst (λ u. value_order u (pair p y) ≡ Less) (ap (λ u. pair u q.1) e ∙ sym q.2) (first_below x q.1 p y low) in
                  absurd (⊎_elim
                  (λ k. not_below_itself z (subst (λ u. value_order z u ≡ Less) k under))
                  (λ k. not_both z (pair p y) under (below_rest (pair p y) s z h.0 k))
                  n))
                  (λ k. k) q.3,
              q.4,
            ),
        h.2,
      )

  step_to : (x : Value) (xs r : List Value) → IsAscending (x ∷ xs) → Goes (x ∷ xs) r → Takes f (pairs b x) (Goes xs) r ⊎ Goes xs r
  step_to x xs [] g h = inr (tt, λ z m. absurd m, law.empty)
  step_to x xs (z ∷ s) g h =
      let q = h.1 z (inl refl) in
      let h' : Goes (x ∷ xs) (pair q.0 q.1 ∷ s) = subst (λ u. Goes (x ∷ xs) (u ∷ s)) q.2 h in
      ⊎_elim
      (λ e.
      let h'' : Goes (x ∷ xs) (pair x q.1 ∷ s) = subst (λ u. Goes (x ∷ xs) (pair u q.1 ∷ s)) (sym e) h' in
      inl (subst (λ u. Takes f (pairs b x) (Goes xs) (u ∷ s)) (ap (λ u. pair u q.1) e ∙ sym q.2) (first_case x xs q.1 s g q.4 h'')))
      (λ n. inr (subst (λ u. Goes xs (u ∷ s)) (sym q.2) (later_case x xs q.0 q.1 s g n h')))
      q.3

  wider : (x : Value) (xs r : List Value) → IsBetween xs b r → IsBetween (x ∷ xs) b r
  wider x xs r h z m = let q = h z m in (q.0, q.1, q.2, inr q.3, q.4)

  step_from : (x : Value) (xs r : List Value) → IsAscending (x ∷ xs) → Takes f (pairs b x) (Goes xs) r ⊎ Goes xs r → Goes (x ∷ xs) r
  step_from x xs r g (inr h) = (h.0, wider x xs r h.1, h.2)
  step_from x xs r g (inl t) =
      let y = from_member_map (pair x) b t.0 t.3 in
      let s = t.1 in
      let fits : f (pair x y.0) s ≡ true = subst (λ u. f u s ≡ true) (sym y.1) t.5 in
      subst (Goes (x ∷ xs)) (ap (λ u. u ∷ s) y.1 ∙ t.2) (
        (
          every_from (λ z. value_order (pair x y.0) z ≡ Less) s (λ z m.
              let q = t.4.1 z m in
              subst (λ u. value_order (pair x y.0) u ≡ Less) (sym q.2) (first_below x y.0 q.0 q.1 (below_rest x xs q.0 g q.3))),
          t.4.0,
        ),
        λ z m. ⊎_elim (λ e. (x, y.0, sym e, inl refl, y.2)) (λ n. wider x xs s t.4.1 z n) m,
        law.more x y.0 s (free x xs s g t.4.1) t.4.2 fits,
      )

  -- ---- total ones

  abbrev pub GoesAll : List Value → List Value → Type 0
  GoesAll a r = Goes a r × IsTotal a r

  pub none_all : (r : List Value) → GoesAll [] r ↔ ([] ≡ r)
  none_all r = (λ h. (none r).0 h.0, λ e. ((none r).1 e, λ x m. absurd m))

  pub all_to : (x : Value) (xs r : List Value) → IsAscending (x ∷ xs) → GoesAll (x ∷ xs) r → Takes f (pairs b x) (GoesAll xs) r
  all_to x xs r g h = ⊎_elim
      (λ t.
      let y = from_member_map (pair x) b t.0 t.3 in (
        t.0,
        t.1,
        t.2,
        t.3,
        (
          t.4,
          λ u m.
              let v = h.1 u (inr m) in
              let there : IsMember (pair u v.0) (t.0 ∷ t.1) = subst (IsMember (pair u v.0)) (sym t.2) v.1 in
              ⊎_elim
              (λ e. absurd (not_below_itself x (subst (λ w. value_order x w ≡ Less) (sym (pair_parts x y.0 u v.0 (y.1 ∙ e)).0) (below_rest x xs u g m))))
              (λ n. (v.0, n)) there,
        ),
        t.5,
      ))
      (λ k. let v = h.1 x (inl refl) in absurd (free x xs r g k.1 v.0 v.1))
      (step_to x xs r g h.0)

  pub all_from : (x : Value) (xs r : List Value) → IsAscending (x ∷ xs) → Takes f (pairs b x) (GoesAll xs) r → GoesAll (x ∷ xs) r
  all_from x xs r g t =
      let y = from_member_map (pair x) b t.0 t.3 in (
        step_from x xs r g (inl (t.0, t.1, t.2, t.3, t.4.0, t.5)),
        subst (λ u. IsTotal (x ∷ xs) u) t.2 (λ u m. ⊎_elim
            (λ e. (y.0, inl (sym y.1 ∙ ap (λ w. pair w y.0) e)))
            (λ n. let v = t.4.1 u n in (v.0, inr v.1)) m),
      )

  -- ---- what is listed

  above : (x : Value) (ys : List Value) → AllByRecursion (λ y. value_order x y ≡ Less) ys → (y : Value) → Each (AllByRecursion (λ q. value_order (pair x y) q ≡ Less)) (map (pairs b) ys)
  above x ys h y = each_map (AllByRecursion (λ q. value_order (pair x y) q ≡ Less)) (pairs b) ys (lift ys h)
    where
      lift : (us : List Value) → AllByRecursion (λ u. value_order x u ≡ Less) us → Each (λ u. AllByRecursion (λ q. value_order (pair x y) q ≡ Less) (pairs b u)) us
      lift [] k = tt
      lift (u ∷ us) k = (every_map (λ q. value_order (pair x y) q ≡ Less) (pair u) b (every_from (λ v. value_order (pair x y) (pair u v) ≡ Less) b (λ v m. first_below x y u v k.0)), lift us k.1)

  ladder : (a : List Value) → IsAscending a → IsAscending b → IsLadder (map (pairs b) a)
  ladder [] h k = tt
  ladder (x ∷ a) h k = (
    pairs_ascending x b k,
    every_map (λ p. Each (AllByRecursion (λ q. value_order p q ≡ Less)) (map (pairs b) a)) (pair x) b
        (every_from (λ y. Each (AllByRecursion (λ q. value_order (pair x y) q ≡ Less)) (map (pairs b) a)) b (λ y m. above x a h.0 y)),
    ladder a h.1 k,
  )

  each_pairs : (a : List Value) → IsAscending b → Each IsAscending (map (pairs b) a)
  each_pairs [] k = tt
  each_pairs (x ∷ a) k = (pairs_ascending x b k, each_pairs a k)

  pub partial_told : (a : List Value) → IsAscending a → IsAscending b → Tells SetOf (IsRelationThat Law a b) ([] ∷ some f (map (pairs b) a))
  partial_told a h k =
      let chosen = in_some f (pairs b) IsAscending Goes rest none (λ x xs r g. (step_to x xs r g, step_from x xs r g)) a in
      record {
        kept = set_order;
        ordered = ordered_some f (map (pairs b) a) (ladder a h k);
        passes = λ r m. let q = (chosen r h).0 m in (r, refl, q.0, q.1, q.2);
        found = λ z p. (p.0, sym p.1, (chosen p.0 h).1 (p.2, p.3, p.4));
      }

  pub total_told : (a : List Value) → IsAscending a → IsAscending b → Tells SetOf (IsRelationThat (λ r. Law r × IsTotal a r) a b) (whole f (map (pairs b) a))
  total_told a h k =
      let chosen = in_whole f (pairs b) IsAscending GoesAll rest none_all (λ x xs r g. (all_to x xs r g, all_from x xs r g)) a in
      record {
        kept = set_order;
        ordered = ordered_whole f (map (pairs b) a) (each_pairs a k);
        passes = λ r m. let q = (chosen r h).0 m in (r, refl, q.0.0, q.0.1, (q.0.2, q.1));
        found = λ z p. (p.0, sym p.1, (chosen p.0 h).1 ((p.2, p.3, p.4.0), p.4.1));
      }
