-- Lists of rows, and of events: what stands in a front, at the end, and the order of two lists that ascend.
use Rattle.law_answered.proofs.Prelude.{◌++◌, ◌∙◌, ◌∷◌, ◌≡◌, ◌≤◌, ◌⊎◌, [], ap, arith, inl, inr, length, List, refl, subst, suc, sym, zero, All-head, All-tail, All, AllPairs, Contains, AllPairs-head, AllPairs-tail, Contains-cases, Contains-head, Contains-later}

-- ---- fronts

pub nothing_more : {X : Type 0} (xs more : List X) → length (xs ++ more) ≤ length xs → more ≡ []
nothing_more [] [] h = refl
nothing_more [] (m ∷ more) h = absurd (omega arith)
nothing_more (x ∷ xs) more h = nothing_more xs more (omega arith)

-- what stands before an element stands before the last one, or that element is the last
pub before_last : {X : Type 0} (us : List X) (m : X) (vs front : List X) (e : X) → us ++ m ∷ vs ≡ front ++ e ∷ [] → (rest : List X) × (front ≡ us ++ rest)
before_last [] m vs front e h = (front, refl)
before_last (u ∷ []) m vs [] e h = absurd (cc)
before_last (u ∷ w ∷ us) m vs [] e h = absurd (cc)
before_last (u ∷ us) m vs (f ∷ front) e h =
    let head : u ≡ f = cc in
    let tail : us ++ m ∷ vs ≡ front ++ e ∷ [] = cc in
    let ih = before_last us m vs front e tail in
    (ih.0, ap (λ x. x ∷ front) (sym head) ∙ ap (λ xs. u ∷ xs) ih.1)

pub same_last : {X : Type 0} (xs ys : List X) (x y : X) → xs ++ x ∷ [] ≡ ys ++ y ∷ [] → (xs ≡ ys) × (x ≡ y)
same_last [] [] x y h = (refl, cc)
same_last (u ∷ xs) (v ∷ ys) x y h =
    let tail : xs ++ x ∷ [] ≡ ys ++ y ∷ [] = cc in
    let head : u ≡ v = cc in
    let ih = same_last xs ys x y tail in
    (ap (λ z. z ∷ xs) head ∙ ap (λ zs. v ∷ zs) ih.0, ih.1)
same_last [] (v ∷ []) x y h = absurd (cc)
same_last (u ∷ []) [] x y h = absurd (cc)
same_last xs ys x y h = absurd (cc)

pub All-front : {X : Type 0} (P : X → Type 0) (xs ys : List X) → All P (xs ++ ys) → All P xs
All-front P [] ys h k d l = absurd (omega arith)
All-front P (x ∷ xs) ys h zero d l = All-head P x (xs ++ ys) h
All-front P (x ∷ xs) ys h (suc k) d l = All-front P xs ys (All-tail P x (xs ++ ys) h) k d (omega arith)

module _ {X : Type 0} (R : X → X → Type 0) where
  -- of two ascending lists, each of which has what comes before a member and stands in the other, one begins with the other
  pub one_begins : ((x y : X) → R x y → R y x → ⊥) → (xs ys : List X) → AllPairs R xs → AllPairs R ys
      → ((x y : X) → Contains xs x → Contains ys y → (x ≡ y) ⊎ (R x y ⊎ R y x))
      → ((x y : X) → Contains xs x → Contains ys y → R x y → Contains ys x) → ((x y : X) → Contains xs x → Contains ys y → R y x → Contains xs y)
      → ((more : List X) × (ys ≡ xs ++ more)) ⊎ ((more : List X) × (xs ≡ ys ++ more))
  one_begins never [] ys o p each down up = inl (ys, refl)
  one_begins never (x ∷ xs) [] o p each down up = inr (x ∷ xs, refl)
  one_begins never (x ∷ xs) (y ∷ ys) o p each down up = elim (each x y (Contains-head x xs) (Contains-head y ys)) [
    | inl same ↦ on same (one_begins never xs ys (AllPairs-tail R x xs o) (AllPairs-tail R y ys p)
        (λ v w m n. each v w (Contains-later x xs v m) (Contains-later y ys w n))
        (λ v w m n r. elim (Contains-cases y ys v (down v w (Contains-later x xs v m) (Contains-later y ys w n) r)) [
          | inl q ↦ absurd (never v v (subst (λ z. R z v) (same ∙ q) (AllPairs-head R x xs o v m)) (subst (λ z. R z v) (same ∙ q) (AllPairs-head R x xs o v m)))
          | inr c ↦ c
        ])
        (λ v w m n r. elim (Contains-cases x xs w (up v w (Contains-later x xs v m) (Contains-later y ys w n) r)) [
          | inl q ↦ absurd (never w w (subst (λ z. R z w) (sym same ∙ q) (AllPairs-head R y ys p w n)) (subst (λ z. R z w) (sym same ∙ q) (AllPairs-head R y ys p w n)))
          | inr c ↦ c
        ]))
    | inr (inl r) ↦ absurd (elim (Contains-cases y ys x (down x y (Contains-head x xs) (Contains-head y ys) r)) [
      | inl q ↦ let itself = subst (λ z. R x z) q r in never x x itself itself
      | inr c ↦ never x y r (AllPairs-head R y ys p x c)
    ])
    | inr (inr r) ↦ absurd (elim (Contains-cases x xs y (up x y (Contains-head x xs) (Contains-head y ys) r)) [
      | inl q ↦ let itself = subst (λ z. R y z) q r in never y y itself itself
      | inr c ↦ never y x r (AllPairs-head R x xs o y c)
    ])
  ]
    where
      on : x ≡ y → ((more : List X) × (ys ≡ xs ++ more)) ⊎ ((more : List X) × (xs ≡ ys ++ more))
          → ((more : List X) × (y ∷ ys ≡ x ∷ (xs ++ more))) ⊎ ((more : List X) × (x ∷ xs ≡ y ∷ (ys ++ more)))
      on same (inl m) = inl (m.0, ap (λ z. z ∷ ys) (sym same) ∙ ap (λ zs. x ∷ zs) m.1)
      on same (inr m) = inr (m.0, ap (λ z. z ∷ xs) same ∙ ap (λ zs. y ∷ zs) m.1)
