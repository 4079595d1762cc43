-- A loop over some things up to the first that does not pass a test.
use Rattle.zf_machines.proofs.Prelude.{◌+◌, ◌<◌, ◌∙◌, ◌≡◌, ◌≤◌, ◌∷◌, [], ap, drop, get_or, inl, inr, length, List, map, subst, sym, ℕ, drop_all, drop_more, AllByRecursion, FirstFails}

-- what is still ahead decides; of the first that fails an answer is reported
pub record IsAhead {A B : Type 0} (Passes : A → Type 0) (Fails : B → A → Type 0) (all rest : List A) : Type 0 where
  pub pass : AllByRecursion Passes rest → AllByRecursion Passes all
  pub fails : (b : B) → FirstFails Passes (Fails b) rest → FirstFails Passes (Fails b) all

module _ {A B : Type 0} (Passes : A → Type 0) (Fails : B → A → Type 0) (all : List A) where
  pub at_first : IsAhead Passes Fails all all
  at_first = record { pass = λ h. h; fails = λ b h. h }

  module _ (rest : List A) (x : A) (more : List A) (is : rest ≡ x ∷ more) (h : IsAhead Passes Fails all rest) where
    pub passed : Passes x → IsAhead Passes Fails all more
    passed passes = record {
      pass = λ others. h.pass (subst (AllByRecursion Passes) (sym is) (passes, others));
      fails = λ b others. h.fails b (subst (FirstFails Passes (Fails b)) (sym is) (inr (passes, others)));
    }

    pub failed : (b : B) → Fails b x → FirstFails Passes (Fails b) all
    failed b fails = h.fails b (subst (FirstFails Passes (Fails b)) (sym is) (inl fails))

  pub all_passed : (rest : List A) → rest ≡ [] → IsAhead Passes Fails all rest → AllByRecursion Passes all
  all_passed rest is h = h.pass (subst (AllByRecursion Passes) (sym is) tt)

-- what is ahead of a place, as it is seen
pub ahead_at : {X : Type 0} (xs : List X) (i : ℕ) (x : X) → x ≡ get_or xs i x → i < length xs → drop i xs ≡ x ∷ drop (i + 1) xs
ahead_at xs i x at l = drop_more xs i x l ∙ ap (λ y. y ∷ drop (i + 1) xs) (sym at)

pub mapped_ahead : {A X : Type 0} (f : X → A) (xs : List X) (i : ℕ) (x : X) → x ≡ get_or xs i x → i < length xs → map f (drop i xs) ≡ f x ∷ map f (drop (i + 1) xs)
mapped_ahead f xs i x at l = ap (map f) (ahead_at xs i x at l)

pub mapped_end : {A X : Type 0} (f : X → A) (xs : List X) (n : ℕ) → length xs ≤ n → map f (drop n xs) ≡ []
mapped_end f xs n l = ap (map f) (drop_all n xs l)
