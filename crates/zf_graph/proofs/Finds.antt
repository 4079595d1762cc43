-- What is found first, and all that is found: ordered lists of which one is a front of the other.
use Rattle.zf_graph.proofs.Prelude.{◌++◌, ◌∙◌, ◌∷◌, ◌≡◌, ◌⊎◌, [], ap, inl, inr, List, refl, subst, sym, append-nil, AllPairs, Contains, AllPairs-across, AllPairs-head, AllPairs-tail, Contains-cases, Contains-head, Contains-later, Contains-right, AreFinds, AreFirst, EachHolds, IsOrderly, Searched}

abbrev pub IsFront : {X : Type 0} → List X → List X → Type 0
IsFront {X} xs ys = (more : List X) × (ys ≡ xs ++ more)

module _ {X : Type 0} (R : X → X → Type 0) (never : (x y : X) → R x y → R y x → ⊥) where
  -- each of these that comes before one of those is one of those
  abbrev Closes : List X → List X → Type 0
  Closes xs ys = (x y : X) → Contains xs x → Contains ys y → R y x → Contains xs y

  closes_tails : (z : X) (xs ys : List X) → AllPairs R (z ∷ xs) → AllPairs R (z ∷ ys) → Closes (z ∷ xs) (z ∷ ys) → Closes xs ys
  closes_tails z xs ys p q h x y m n r = elim (Contains-cases z xs y (h x y (Contains-later z xs x m) (Contains-later z ys y n) r)) [
    | inl e ↦ absurd (never z z (subst (R z) (sym e) (AllPairs-head R z ys q y n)) (subst (R z) (sym e) (AllPairs-head R z ys q y n)))
    | inr k ↦ k
  ]

  fronts_here : (x y : X) (xs ys : List X) → x ≡ y → AllPairs R (x ∷ xs) → AllPairs R (y ∷ ys) → Closes (x ∷ xs) (y ∷ ys) → Closes (y ∷ ys) (x ∷ xs)
      → (Closes xs ys → Closes ys xs → IsFront xs ys ⊎ IsFront ys xs) → IsFront (x ∷ xs) (y ∷ ys) ⊎ IsFront (y ∷ ys) (x ∷ xs)
  fronts_here x y xs ys same p q h k ih =
      let q' : AllPairs R (x ∷ ys) = subst (λ z. AllPairs R (z ∷ ys)) (sym same) q in
      let h' : Closes (x ∷ xs) (x ∷ ys) = subst (λ z. Closes (x ∷ xs) (z ∷ ys)) (sym same) h in
      let k' : Closes (x ∷ ys) (x ∷ xs) = subst (λ z. Closes (z ∷ ys) (x ∷ xs)) (sym same) k in
      elim (ih (closes_tails x xs ys p q' h') (closes_tails x ys xs q' p k')) [
        | inl f ↦ inl (f.0, ap (λ w. y ∷ w) f.1 ∙ ap (λ z. z ∷ (xs ++ f.0)) (sym same))
        | inr f ↦ inr (f.0, ap (λ w. x ∷ w) f.1 ∙ ap (λ z. z ∷ (ys ++ f.0)) same)
      ]

  -- of two ordered lists that each close over the other, and whose items are comparable, one is a front of the other
  pub fronts : (xs ys : List X) → AllPairs R xs → AllPairs R ys → Closes xs ys → Closes ys xs
      → ((x y : X) → Contains xs x → Contains ys y → (x ≡ y) ⊎ R x y ⊎ R y x) → IsFront xs ys ⊎ IsFront ys xs
  fronts [] ys p q h k c = inl (ys, refl)
  fronts (x ∷ xs) [] p q h k c = inr (x ∷ xs, refl)
  fronts (x ∷ xs) (y ∷ ys) p q h k c = elim (c x y (Contains-head x xs) (Contains-head y ys)) [
    | inl same ↦ fronts_here x y xs ys same p q h k (λ a b. fronts xs ys (AllPairs-tail R x xs p) (AllPairs-tail R y ys q) a b
        (λ v w m n. c v w (Contains-later x xs v m) (Contains-later y ys w n)))
    | inr (inl r) ↦ absurd (before x y xs ys p q k r)
    | inr (inr r) ↦ absurd (before y x ys xs q p h r)
  ] where
    before : (x y : X) (xs ys : List X) → AllPairs R (x ∷ xs) → AllPairs R (y ∷ ys) → Closes (y ∷ ys) (x ∷ xs) → R x y → ⊥
    before x y xs ys p q k r = elim (Contains-cases y ys x (k y x (Contains-head y ys) (Contains-head x xs) r)) [
      | inl same ↦ never x y r (subst (λ z. R y z) same (subst (λ z. R z y) (sym same) r))
      | inr m ↦ never x y r (AllPairs-head R y ys q x m)
    ]

  -- an ordered list has no item twice
  pub no_more : (xs more : List X) → AllPairs R (xs ++ more) → ((x : X) → Contains more x → Contains xs x) → more ≡ []
  no_more xs [] p h = refl
  no_more xs (m ∷ more) p h =
      let r : R m m = AllPairs-across R xs (m ∷ more) p m m (h m (Contains-head m more)) (Contains-head m more) in absurd (never m m r r)

module _ {N L O X : Type 0} (s : Searched N L O X) (orderly : IsOrderly s) (a : N) (o : O) where
  -- of what is found first twice, one is a front of the other
  pub one_first : (xs ys : List X) → AreFirst s a o xs → AreFirst s a o ys → IsFront xs ys ⊎ IsFront ys xs
  one_first xs ys h k = fronts s.IsBefore orderly.never_both xs ys h.ascending k.ascending
      (λ x y m n r. h.first x y m (k.are y n) r) (λ y x n m r. k.first y x n (h.are x m) r)
      (λ x y m n. orderly.linear a o x y (h.are x m) (k.are y n))

  pub first_of_all : (xs : List X) → AreFinds s a o xs → AreFirst s a o xs
  first_of_all xs h = record {
    ascending = h.ascending;
    are = λ x m. (h.members x).0 m;
    first = λ x y m i r. (h.members y).1 i;
  }

  -- and it is a front of all
  pub first_in_all : (xs ys : List X) → AreFirst s a o xs → AreFinds s a o ys → IsFront xs ys
  first_in_all xs ys h k = elim (one_first xs ys h (first_of_all ys k)) [
    | inl f ↦ f
    | inr f ↦
        let none : f.0 ≡ [] = no_more s.IsBefore orderly.never_both ys f.0 (subst (AllPairs s.IsBefore) f.1 h.ascending)
        (λ x m. (k.members x).1 (h.are x (subst (λ w. Contains w x) (sym f.1) (Contains-right ys f.0 x m)))) in
        ([], sym (append-nil xs ∙ f.1 ∙ ap (λ w. ys ++ w) none ∙ append-nil ys))
  ]

  pub one_all : (xs ys : List X) → AreFinds s a o xs → AreFinds s a o ys → xs ≡ ys
  one_all xs ys h k =
      let f = first_in_all xs ys (first_of_all xs h) k in
      let none : f.0 ≡ [] = no_more s.IsBefore orderly.never_both xs f.0 (subst (AllPairs s.IsBefore) f.1 k.ascending)
      (λ x m. (h.members x).1 ((k.members x).0 (subst (λ w. Contains w x) (sym f.1) (Contains-right xs f.0 x m)))) in
      sym (f.1 ∙ ap (λ w. xs ++ w) none ∙ append-nil xs)

  -- where what can't be decided is found first, not all hold
  pub all_or_out : (xs ys : List X) (x : X) → AreFinds s a o xs → EachHolds s xs → AreFirst s a o (ys ++ x ∷ []) → s.IsOut x → ⊥
  all_or_out xs ys x h hold k out =
      orderly.told x (hold x ((h.members x).1 (k.are x (Contains-right ys (x ∷ []) x (Contains-head x []))))) out

  -- of what holds and of what can't be decided, the lists before the first that can't be decided are one
  pub before_out : (xs ys : List X) (x y : X) → EachHolds s ys → s.IsOut x → IsFront (xs ++ x ∷ []) (ys ++ y ∷ []) → (xs ≡ ys) × (x ≡ y)
  before_out xs ys x y hold out f = go xs ys hold f where
    head : {X : Type 0} → X → List X → X
    head d [] = d
    head d (z ∷ zs) = z

    tail : {X : Type 0} → List X → List X
    tail [] = []
    tail (z ∷ zs) = zs

    empty : (zs more : List X) → [] ≡ zs ++ more → (us : List X) → zs ≡ us ++ x ∷ [] → ⊥
    empty [] more e [] d = cc
    empty [] more e (u ∷ us) d = cc
    empty (z ∷ zs) more e us d = cc

    go : (xs ys : List X) → EachHolds s ys → IsFront (xs ++ x ∷ []) (ys ++ y ∷ []) → (xs ≡ ys) × (x ≡ y)
    go [] [] hold (more, e) = (refl, sym (ap (head y) e))
    go [] (z ∷ ys) hold (more, e) = absurd (orderly.told x (subst s.Holds (ap (head z) e) (hold z (Contains-head z ys))) out)
    go (w ∷ xs) [] hold (more, e) = absurd (empty (xs ++ x ∷ []) more (ap tail e) xs refl)
    go (w ∷ xs) (z ∷ ys) hold (more, e) =
        let r = go xs ys (λ v m. hold v (Contains-later z ys v m)) (more, ap tail e) in
        (ap (λ u. w ∷ u) r.0 ∙ ap (λ u. u ∷ ys) (sym (ap (head z) e)), r.1)
