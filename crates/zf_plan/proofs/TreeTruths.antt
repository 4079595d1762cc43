-- Trees have one truth and keep it, as their leaves.
use Rattle.zf_plan.proofs.Prelude.{◌++◌, ◌∙◌, ◌≡◌, ◌≤◌, ◌⊎◌, [], ap, arith, inl, inr, length, List, refl, subst, sym, ℕ, append-nil, Conjuncts, HaveOneTruth, KeepTruths, AreDueWithin, Truth, False, Out, True, IsSettled, both, due_of, either, HasLeavesWithin, HaveLeavesWithin, IsOfBoth, IsOfEither, IsTreeTruth, leaf, negated, opposite, planted, Tree, tree_at}

-- ---- one truth

abbrev IsOne : (Truth → Type 0) → Type 0
IsOne P = (t u : Truth) → P t → P u → t ≡ u

clash-true : (P : Truth → Type 0) → IsOne P → P True → P False → ⊥
clash-true P one a b = let e : True ≡ False = one True False a b in cc

clash-out : (P : Truth → Type 0) → IsOne P → P Out → P False → ⊥
clash-out P one a b = let e : Out ≡ False = one Out False a b in cc

clash-both : (P : Truth → Type 0) → IsOne P → P True → P Out → ⊥
clash-both P one a b = let e : True ≡ Out = one True Out a b in cc

clash-not_false : (P : Truth → Type 0) → IsOne P → P True ⊎ P Out → P False → ⊥
clash-not_false P one (inl a) b = clash-true P one a b
clash-not_false P one (inr a) b = clash-out P one a b

false-true : (P Q : Truth → Type 0) → IsOne P → IsOne Q → P False ⊎ Q False → P True × Q True → ⊥
false-true P Q p q (inl a) k = clash-true P p k.0 a
false-true P Q p q (inr a) k = clash-true Q q k.1 a

false-out : (P Q : Truth → Type 0) → IsOne P → IsOne Q → P False ⊎ Q False → (P True ⊎ P Out) × (Q True ⊎ Q Out) × (P Out ⊎ Q Out) → ⊥
false-out P Q p q (inl a) k = clash-not_false P p k.0 a
false-out P Q p q (inr a) k = clash-not_false Q q k.1 a

true-out : (P Q : Truth → Type 0) → IsOne P → IsOne Q → P True × Q True → P Out ⊎ Q Out → ⊥
true-out P Q p q h (inl a) = clash-both P p h.0 a
true-out P Q p q h (inr a) = clash-both Q q h.1 a

both-one : (P Q : Truth → Type 0) → IsOne P → IsOne Q → IsOne (IsOfBoth P Q)
both-one P Q p q True True h k = refl
both-one P Q p q False False h k = refl
both-one P Q p q Out Out h k = refl
both-one P Q p q True False h k = absurd (false-true P Q p q k h)
both-one P Q p q False True h k = absurd (false-true P Q p q h k)
both-one P Q p q False Out h k = absurd (false-out P Q p q h k)
both-one P Q p q Out False h k = absurd (false-out P Q p q k h)
both-one P Q p q True Out h k = absurd (true-out P Q p q h k.2)
both-one P Q p q Out True h k = absurd (true-out P Q p q k h.2)

opposite-twice : (t : Truth) → t ≡ opposite (opposite t)
opposite-twice True = refl
opposite-twice False = refl
opposite-twice Out = refl

opposite-same : (t u : Truth) → opposite t ≡ opposite u → t ≡ u
opposite-same t u e = opposite-twice t ∙ ap opposite e ∙ sym (opposite-twice u)

opposite-one : (P : Truth → Type 0) → IsOne P → IsOne (λ t. P (opposite t))
opposite-one P p t u h k = opposite-same t u (p (opposite t) (opposite u) h k)

as-both : (P Q : Truth → Type 0) (t : Truth) → IsOfEither P Q t → IsOfBoth (λ u. P (opposite u)) (λ u. Q (opposite u)) (opposite t)
as-both P Q True h = h
as-both P Q False h = h
as-both P Q Out h = h

either-one : (P Q : Truth → Type 0) → IsOne P → IsOne Q → IsOne (IsOfEither P Q)
either-one P Q p q t u h k = opposite-same t u
    (both-one (λ u. P (opposite u)) (λ u. Q (opposite u)) (opposite-one P p) (opposite-one Q q) (opposite t) (opposite u) (as-both P Q t h) (as-both P Q u k))

module _ {V : Type 0} (l : Conjuncts V) (one : HaveOneTruth l) where
  tree-one : (tree : Tree) (row : List V) → HasLeavesWithin l.number tree → due_of l tree ≤ length row → IsOne (IsTreeTruth l tree row)
  tree-one (leaf c) row m d t u h k = one c row t u m d h k
  tree-one (negated a) row m d t u h k = opposite-same t u (tree-one a row m d (opposite t) (opposite u) h k)
  tree-one (both a b) row m d t u h k = both-one (IsTreeTruth l a row) (IsTreeTruth l b row) (tree-one a row m.0 (omega arith)) (tree-one b row m.1 (omega arith)) t u h k
  tree-one (either a b) row m d t u h k = either-one (IsTreeTruth l a row) (IsTreeTruth l b row) (tree-one a row m.0 (omega arith)) (tree-one b row m.1 (omega arith)) t u h k

  pub planted-one : (trees : List Tree) → HaveLeavesWithin l.number trees → HaveOneTruth (planted l trees)
  planted-one trees w c row t u h d a b = tree-one (tree_at trees c) row (w c (leaf 0) h) d t u a b

-- ---- kept

side : (P P' Q Q' : Type 0) → (P → P') → (Q → Q') → P ⊎ Q → P' ⊎ Q'
side P P' Q Q' f g (inl a) = inl (f a)
side P P' Q Q' f g (inr b) = inr (g b)

module _ (P P' Q Q' : Truth → Type 0) (f : (t : Truth) → P t → P' t) (g : (t : Truth) → Q t → Q' t) where
  pub both-kept : (t : Truth) → IsOfBoth P Q t → IsOfBoth P' Q' t
  both-kept True h = (f True h.0, g True h.1)
  both-kept False h = side (P False) (P' False) (Q False) (Q' False) (f False) (g False) h
  both-kept Out h = (
    side (P True) (P' True) (P Out) (P' Out) (f True) (f Out) h.0,
    side (Q True) (Q' True) (Q Out) (Q' Out) (g True) (g Out) h.1,
    side (P Out) (P' Out) (Q Out) (Q' Out) (f Out) (g Out) h.2,
  )

  pub either-kept : (t : Truth) → IsOfEither P Q t → IsOfEither P' Q' t
  either-kept False h = (f False h.0, g False h.1)
  either-kept True h = side (P True) (P' True) (Q True) (Q' True) (f True) (g True) h
  either-kept Out h = (
    side (P False) (P' False) (P Out) (P' Out) (f False) (f Out) h.0,
    side (Q False) (Q' False) (Q Out) (Q' Out) (g False) (g Out) h.1,
    side (P Out) (P' Out) (Q Out) (Q' Out) (f Out) (g Out) h.2,
  )

module _ {V : Type 0} (l : Conjuncts V) (keep : KeepTruths l) where
  tree-kept : (tree : Tree) (row more : List V) → HasLeavesWithin l.number tree → due_of l tree ≤ length row → (t : Truth) → IsTreeTruth l tree row t → IsTreeTruth l tree (row ++ more) t
  tree-kept (leaf c) row more m d t h = keep c row more t m d h
  tree-kept (negated a) row more m d t h = tree-kept a row more m d (opposite t) h
  tree-kept (both a b) row more m d t h = both-kept (IsTreeTruth l a row) (IsTreeTruth l a (row ++ more)) (IsTreeTruth l b row) (IsTreeTruth l b (row ++ more))
      (tree-kept a row more m.0 (omega arith)) (tree-kept b row more m.1 (omega arith)) t h
  tree-kept (either a b) row more m d t h = either-kept (IsTreeTruth l a row) (IsTreeTruth l a (row ++ more)) (IsTreeTruth l b row) (IsTreeTruth l b (row ++ more))
      (tree-kept a row more m.0 (omega arith)) (tree-kept b row more m.1 (omega arith)) t h

  pub planted-kept : (trees : List Tree) → HaveLeavesWithin l.number trees → KeepTruths (planted l trees)
  planted-kept trees w c row more t h d s = tree-kept (tree_at trees c) row more (w c (leaf 0) h) d t s

-- ---- what is needed

pub due-within : {V : Type 0} (l : Conjuncts V) (n : ℕ) → AreDueWithin l n → (tree : Tree) → HasLeavesWithin l.number tree → due_of l tree ≤ n
due-within l n due (leaf c) m = due c m
due-within l n due (negated a) m = due-within l n due a m
due-within l n due (both a b) m = omega (arith, due-within l n due a m.0, due-within l n due b m.1)
due-within l n due (either a b) m = omega (arith, due-within l n due a m.0, due-within l n due b m.1)

pub planted-due : {V : Type 0} (l : Conjuncts V) (n : ℕ) → AreDueWithin l n → (trees : List Tree) → HaveLeavesWithin l.number trees → AreDueWithin (planted l trees) n
planted-due l n due trees w c h = due-within l n due (tree_at trees c) (w c (leaf 0) h)

-- ---- settled truths

pub settled-here : {V : Type 0} (l : Conjuncts V) (tree : Tree) (row : List V) (t : Truth) → IsSettled l tree row t → IsTreeTruth l tree row t
settled-here l tree row t h = subst (λ r. IsTreeTruth l tree r t) (append-nil row) (h [])
