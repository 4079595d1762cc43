-- The one pair among those that begin with a value.
use Rattle.zf_value.proofs.Prelude.{◌+◌, ◌<◌, ◌∙◌, ◌∷◌, ◌≡◌, ◌≤◌, [], add-one, ap, arith, false, get_or, inl, inr, length, Less, List, None, Option, Some, subst, suc, sym, take, true, zero, ℕ, ⊎_elim, is_some, MatchOption, Bor, pair, Relates, IsApplied, IsAscending, IsMember, value_order, AreRelated, Value, Is, Undefined}
use Rattle.zf_value.proofs.Among.{below_at, not_below_itself, member_at, members-take_more, take_all, before_in}
use Rattle.zf_value.proofs.Gathered.{same_pair}

-- the second of the only pair of the list, if there is one pair
abbrev pub IsOnly : List Value → Option (Bor Value) → Type 0
IsOnly xs r = MatchOption r ((u y : Value) → Relates xs u y → ⊥) (λ w. (u : Value) × Relates xs u w.now × ((v y : Value) → Relates xs v y → pair v y ≡ pair u w.now))

pub only_pass : (xs : List Value) (i : ℕ) (z : Value) (r : Option (Bor Value)) → z ≡ get_or xs i z → i < length xs → ((x y : Value) → z ≡ pair x y → ⊥)
    → IsOnly (take i xs) r → IsOnly (take (i + 1) xs) r
only_pass xs i z None e l n h = rw add-one (λ u y m. ⊎_elim (λ k. h u y k) (λ s. n u y s) ((members-take_more xs i z e l (pair u y)).0 m))
only_pass xs i z (Some w) e l n h =
    rw add-one
    (h.0, (members-take_more xs i z e l (pair h.0 w.now)).1 (inl h.1), λ v y m. ⊎_elim (λ k. h.2 v y k) (λ s. absurd (n v y s)) ((members-take_more xs i z e l (pair v y)).0 m))

pub only_first : (xs : List Value) (i : ℕ) (z x : Value) (y : Bor Value) (r : Option (Bor Value)) → z ≡ get_or xs i z → i < length xs → z ≡ pair x y.now
    → is_some r ≡ false → IsOnly (take i xs) r → IsOnly (take (i + 1) xs) (Some y)
only_first xs i z x y (Some w) e l s n h = (cc)
only_first xs i z x y None e l s n h =
    rw add-one
    (x, (members-take_more xs i z e l (pair x y.now)).1 (inr s), λ v u m. ⊎_elim (λ k. absurd (h v u k)) (λ t. sym t ∙ s) ((members-take_more xs i z e l (pair v u)).0 m))

-- two pairs: the value is taken to none alone
pub only_twice : (f xs : List Value) (x : Value) (i : ℕ) (z a y : Value) (r : Option (Bor Value)) → AreRelated f x xs → z ≡ get_or xs i z → i < length xs
    → z ≡ pair a y → is_some r ≡ true → IsOnly (take i xs) r → IsApplied f x Undefined
unfolding IsApplied
only_twice f xs x i z a y None h e l s b o = (cc)
only_twice f xs x i z a y (Some w) h e l s b o = λ v only.
    let here : IsMember (pair a y) xs = subst (λ u. IsMember u xs) s (member_at xs i z e l) in
    let sooner = before_in xs i (pair o.0 w.now) o.1 in
    let a_is = h.first a y here in
    let u_is = h.first o.0 w.now sooner in
    let y_is = only.1 y ((h.same y).0 (subst (λ u. IsMember (pair u y) xs) a_is here)) in
    let w_is = only.1 w.now ((h.same w.now).0 (subst (λ u. IsMember (pair u w.now) xs) u_is sooner)) in
    let same : pair o.0 w.now ≡ z = ap (λ u. pair u w.now) (u_is ∙ sym a_is) ∙ ap (pair a) (w_is ∙ sym y_is) ∙ sym s in
    not_twice xs i z h.ascending e l (subst (λ u. IsMember u (take i xs)) same o.1)
  where
    not_twice : (ys : List Value) (k : ℕ) (v : Value) → IsAscending ys → v ≡ get_or ys k v → k < length ys → IsMember v (take k ys) → ⊥
    not_twice [] k v g p q m = absurd (omega arith)
    not_twice (u ∷ us) zero v g p q m = absurd m
    not_twice (u ∷ us) (suc k) v g p q m =
        ⊎_elim (λ t. not_below_itself v (subst (λ n. value_order n v ≡ Less) t
        (subst (λ n. value_order u n ≡ Less) (sym p) (below_at (u ∷ us) 0 (suc k) v g (omega arith) q)))) (λ n. not_twice us k v g.1 p (omega arith) n) m

-- at the end of the list
pub only_one : (f xs : List Value) (x : Value) (i : ℕ) (r : Option (Bor Value)) → AreRelated f x xs → length xs ≤ i → IsOnly (take i xs) r
    → MatchOption r (IsApplied f x Undefined) (λ y. IsApplied f x (Is y.now))
unfolding IsApplied
only_one f xs x i None h l o =
    let all : IsOnly xs None = subst (λ ys. IsOnly ys None) (take_all i xs l) o in
    λ y only. all x y ((h.same y).1 only.0)
only_one f xs x i (Some w) h l o =
    let all : IsOnly xs (Some w) = subst (λ ys. IsOnly ys (Some w)) (take_all i xs l) o in
    let u_is = h.first all.0 w.now all.1 in
    let here = (h.same w.now).0 (subst (λ u. IsMember (pair u w.now) xs) u_is all.1) in
    (here, λ y m. (same_pair x y all.0 w.now (all.2 x y ((h.same y).1 m))).1)
