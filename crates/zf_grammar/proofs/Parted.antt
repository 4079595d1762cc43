-- Items parted by a symbol: what is read is spelled.
use Rattle.zf_grammar.proofs.Prelude.{◌++◌, ◌∷◌, ◌≡◌, [], length, List, Ok, Parser, refl, subst, suc, zero, ℕ, is_mark, Symbol, Mark, Next, PartedBy, ◌≤◌, arith, Kind, first, parted, parted_from, rest}
use Rattle.zf_grammar.proofs.Marks.{kind_of, marked, next_shorter}
use Rattle.zf_grammar.proofs.TermSteps.{ok_pair, bind_ok, if_cases}

module _ {A : Type 0} (part : Mark) (S : A → List Symbol → List Symbol → Type 0) where
  -- what follows the items read so far
  abbrev pub Further : List A → List Symbol → List Symbol → Type 0
  Further [] ts us = ts ≡ us
  Further (x ∷ xs) ts us = (b : List Symbol) × Next (kind_of part) ts b × PartedBy (kind_of part) S (x ∷ xs) b us

  -- the first of some items, and what follows it
  abbrev pub First : A → List A → List Symbol → List Symbol → Type 0
  First x xs ts us = (a : List Symbol) × S x ts a × Further xs a us

  pub first_of_all : (x : A) (xs : List A) (ts us : List Symbol) → PartedBy (kind_of part) S (x ∷ xs) ts us → First x xs ts us
  first_of_all x [] ts us h = (us, h, refl)
  first_of_all x (y ∷ ys) ts us h = (h.0, h.2, (h.1, h.3, h.4))

  -- one more item at the end
  pub more : (xs : List A) (x : A) (ts a b us : List Symbol) → PartedBy (kind_of part) S xs ts a → Next (kind_of part) a b → S x b us
      → PartedBy (kind_of part) S (xs ++ x ∷ []) ts us
  more [] x ts a b us h n s = absurd h
  more (y ∷ []) x ts a b us h n s = (a, b, h, n, s)
  more (y ∷ (z ∷ zs)) x ts a b us h n s = (h.0, h.1, h.2, h.3, more (z ∷ zs) x h.1 a b us h.4 n s)

module _ {A : Type 0} (part : Mark) (item : Parser A) (S : A → List Symbol → List Symbol → Type 0) where
  module _ (sound : (ts us : List Symbol) (x : A) → item ts ≡ Ok (x, us) → S x ts us) where
    from_sound : (n : ℕ) (xs ys : List A) (ts a us : List Symbol) → PartedBy (kind_of part) S xs ts a → parted_from part item n xs a ≡ Ok (ys, us)
        → PartedBy (kind_of part) S ys ts us
    unfolding parted_from
    from_sound zero xs ys ts a us h e = subst (λ p. PartedBy (kind_of part) S p.0 ts p.1) (ok_pair (xs, a) (ys, us) e) h
    from_sound (suc n) xs ys ts a us h e =
        if_cases (is_mark part (first a)) _ _ (ys, us) e
        (λ is e.
        let x = bind_ok (item (rest a)) _ (ys, us) e in
        from_sound n (xs ++ x.0 ∷ []) ys ts x.1 us (more part S xs x.0 ts a (rest a) x.1 h (marked part a is) (sound (rest a) x.1 x.0 x.2)) x.3)
        (λ is e. subst (λ p. PartedBy (kind_of part) S p.0 ts p.1) (ok_pair (xs, a) (ys, us) e) h)

    pub parted_sound : (ys : List A) (ts us : List Symbol) → parted part item ts ≡ Ok (ys, us) → PartedBy (kind_of part) S ys ts us
    unfolding parted
    parted_sound ys ts us e =
        let x = bind_ok (item ts) _ (ys, us) e in
        from_sound (length x.1) (x.0 ∷ []) ys ts x.1 us (sound ts x.1 x.0 x.2) x.3

pub parted_shorter : {A : Type 0} (kind : Kind) (S : A → List Symbol → List Symbol → Type 0)
    → ((x : A) (ts us : List Symbol) → S x ts us → length us ≤ length ts)
    → (xs : List A) (ts us : List Symbol) → PartedBy kind S xs ts us → length us ≤ length ts
parted_shorter kind S shorter [] ts us h = absurd h
parted_shorter kind S shorter (x ∷ []) ts us h = shorter x ts us h
parted_shorter kind S shorter (x ∷ (y ∷ ys)) ts us h =
    omega (arith, shorter x ts h.0 h.2, next_shorter h.0 h.1 h.3, parted_shorter kind S shorter (y ∷ ys) h.1 us h.4)
