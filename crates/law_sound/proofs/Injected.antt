-- A list whose members give members of another, each another one, is no longer than that.
use Rattle.law_sound.proofs.Prelude.{◌++◌, ◌∷◌, ◌≡◌, ◌≤◌, [], ap, arith, inl, inr, length, Less, List, refl, subst, sym, ⊎_elim, every_at, members-append, not_below_itself, IsAscending, IsMember, value_order, Value}
use Rattle.std.proofs.lemmas.List.{length-append}

-- what stands before a member, and what stands after it
split : (ys : List Value) (y : Value) → IsMember y ys → (a b : List Value) × (ys ≡ a ++ y ∷ b)
split [] y m = absurd m
split (z ∷ ys) y m = ⊎_elim (λ e. ([], ys, ap (λ x. x ∷ ys) e)) (λ n. let s = split ys y n in (z ∷ s.0, s.1, ap (λ r. z ∷ r) s.2)) m

abbrev AreDistinct : List Value → Type 0
AreDistinct [] = Unit {0}
AreDistinct (x ∷ xs) = (IsMember x xs → ⊥) × AreDistinct xs

distinct : (xs : List Value) → IsAscending xs → AreDistinct xs
distinct [] h = tt
distinct (x ∷ xs) h = (λ m. not_below_itself x (every_at (λ y. value_order x y ≡ Less) xs x h.0 m), distinct xs h.1)

module _ (G : Value → Value → Type 0) where
  other : (a b : List Value) (y z : Value) → (z ≡ y → ⊥) → IsMember z (a ++ y ∷ b) → IsMember z (a ++ b)
  other a b y z apart m =
      (members-append a b z).1 (⊎_elim (λ n. inl n) (λ n. ⊎_elim (λ e. absurd (apart (sym e))) (λ k. inr k) n) ((members-append a (y ∷ b) z).0 m))

  counted : (xs ys : List Value) → AreDistinct xs → ((x : Value) → IsMember x xs → (y : Value) × IsMember y ys × G x y) → ((x z y : Value) → G x y → G z y → x ≡ z) → length xs ≤ length ys
  counted [] ys d f one = omega arith
  counted (x ∷ xs) ys d f one =
      let here = f x (inl refl) in
      let s = split ys here.0 here.1 in
      let rest = counted xs (s.0 ++ s.1) d.1
      (λ z m. let there = f z (inr m) in (
        there.0,
        other s.0 s.1 here.0 there.0
            (λ e. d.0 (subst (λ u. IsMember u xs) (one z x here.0 (subst (G z) e there.2) here.2) m)) (subst (IsMember there.0) s.2 there.1),
        there.2,
      ))
      one in
      omega (arith, rest, length-append s.0 s.1, length-append s.0 (here.0 ∷ s.1), ap length s.2)

  pub no_longer : (xs ys : List Value) → IsAscending xs → ((x : Value) → IsMember x xs → (y : Value) × IsMember y ys × G x y) → ((x z y : Value) → G x y → G z y → x ≡ z) → length xs ≤ length ys
  no_longer xs ys h f one = counted xs ys (distinct xs h) f one
