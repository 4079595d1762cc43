-- The truth of the conjuncts of which something holds, on every row that begins with a given one.
use Rattle.zf_plan.proofs.Prelude.{◌++◌, ◌+◌, ◌<◌, ◌∙◌, ◌≡◌, ◌≤◌, ◌⊎◌, ap, append_assoc, arith, false, get_or, inl, inr, length, length-picked, List, None, Option, refl, Some, subst, sym, true, ℕ, cases_eq, cases_lt, get_or_default, take_all, ◌≢◌, Conjuncts, IsTruthOf, KeepTruths, AreWithin, picked, Truth, False, Out, True, conjoined, IsKnown, IsSettled, HasLeavesWithin, HaveLeavesWithin, IsTreeTruth, both, due_of, either, leaf, negated, planted, Tree, tree_at, Bool, ◌||◌, max, eq-eqb}
use Rattle.zf_plan.specs.{AreDue, AreHeld, AreNotFalse, AreTouched, IsAmong, IsLeafDue, IsLeafOrBelow, IsRefuted, IsSoFar, IsTold, IsTruthOfLeaves, joined, NeedsBelow, NeedsWithin, Tests, touches, touches_inside}
use Rattle.zf_plan.proofs.Knowing.{settled-leaf}
use Rattle.zf_plan.proofs.TreeTruths.{settled-here}

module _ {V : Type 0} (l : Conjuncts V) (trees : List Tree) where
  settled-longer : (tree : Tree) (row more : List V) (t : Truth) → IsSettled l tree row t → IsSettled l tree (row ++ more) t
  settled-longer tree row more t h rest = subst (λ r. IsTreeTruth l tree r t) (sym (append_assoc row more rest)) (h (more ++ rest))

  -- on a longer row
  pub so-longer : (P : ℕ → Type 0) (row more : List V) (t : Truth) → t ≢ False → IsSoFar l trees row P t → IsSoFar l trees (row ++ more) P t
  unfolding IsSoFar
  so-longer P row more True ne h = λ j m p. settled-longer (tree_at trees j) row more True (h j m p)
  so-longer P row more False ne h = absurd (ne refl)
  so-longer P row more Out ne h = (
    (λ j m p. elim (h.0 j m p) [ inl a ↦ inl (settled-longer (tree_at trees j) row more True a) | inr b ↦ inr (settled-longer (tree_at trees j) row more Out b) ]),
    (let w = h.1 in (w.0, w.1, settled-longer (tree_at trees w.0) row more Out w.2)),
  )

  -- of fewer conjuncts
  pub so-fewer : (P Q : ℕ → Type 0) (row : List V) (t : Truth) → ((j : ℕ) → j < length trees → Q j → P j) → IsSoFar l trees row P t → IsSoFar l trees row Q t
  unfolding IsSoFar
  so-fewer P Q row True f h = λ j m q. h j m (f j m q)
  so-fewer P Q row False f h = h
  so-fewer P Q row Out f h = ((λ j m q. h.0 j m (f j m q)), h.1)

  pub so-none : (P : ℕ → Type 0) (row : List V) → ((j : ℕ) → j < length trees → P j → ⊥) → IsSoFar l trees row P True
  unfolding IsSoFar
  so-none P row none = λ j m p. absurd (none j m p)

  pub so-refuted : (P : ℕ → Type 0) (row : List V) → IsSoFar l trees row P False → IsRefuted l trees row
  unfolding IsSoFar
  so-refuted P row h = h

  pub so-false : (P Q : ℕ → Type 0) (row : List V) → IsSoFar l trees row P False → IsSoFar l trees row Q False
  unfolding IsSoFar
  so-false P Q row h = h

  -- with the leaves that need k values, where these are True
  pub so-told : (k : ℕ) (row : List V) (t : Truth) → IsSoFar l trees row (NeedsBelow l trees k) t → AreHeld l trees row k → IsSoFar l trees row (IsLeafOrBelow l trees k) t
  unfolding IsSoFar
  so-told k row True h held = λ j m p. elim p [ inl below ↦ h j m below | inr w ↦ held j w.0 m w.1 ]
  so-told k row False h held = h
  so-told k row Out h held = ((λ j m p. elim p [ inl below ↦ h.0 j m below | inr w ↦ inl (held j w.0 m w.1) ]), h.1)

  -- of one more, whose truth is known
  module _ (P : ℕ → Type 0) (row : List V) (i : ℕ) (near : i < length trees) where
    abbrev pub OrThis : ℕ → Type 0
    OrThis j = P j ⊎ (j ≡ i)

    settled-as : (j : ℕ) (u : Truth) → j ≡ i → IsSettled l (tree_at trees i) row u → IsSettled l (tree_at trees j) row u
    settled-as j u e h = subst (λ k. IsSettled l (tree_at trees k) row u) (sym e) h

    pub so-more : (t u : Truth) → t ≢ False → touches l (length row) (tree_at trees i) ≡ true → IsSoFar l trees row P t → IsSettled l (tree_at trees i) row u
        → IsSoFar l trees row OrThis (conjoined t u)
    unfolding IsSoFar
    so-more False u ne at h k = absurd (ne refl)
    so-more True True ne at h k = λ j m p. elim p [ inl q ↦ h j m q | inr e ↦ settled-as j True e k ]
    so-more True False ne at h k = (i, near, k, at)
    so-more True Out ne at h k = ((λ j m p. elim p [ inl q ↦ inl (h j m q) | inr e ↦ inr (settled-as j Out e k) ]), (i, near, k))
    so-more Out True ne at h k = ((λ j m p. elim p [ inl q ↦ h.0 j m q | inr e ↦ inl (settled-as j True e k) ]), h.1)
    so-more Out False ne at h k = (i, near, k, at)
    so-more Out Out ne at h k = ((λ j m p. elim p [ inl q ↦ h.0 j m q | inr e ↦ inr (settled-as j Out e k) ]), h.1)

  -- on a row that has all values
  pub so-whole : (k : ℕ) (row : List V) (t : Truth) → ((j : ℕ) → j < length trees → due_of l (tree_at trees j) ≤ k) → t ≢ False
      → IsSoFar l trees row (NeedsWithin l trees k) t → IsTruthOf (planted l trees) row t
  unfolding IsSoFar
  so-whole k row False due ne h = absurd (ne refl)
  so-whole k row True due ne h = λ j m. settled-here l (tree_at trees j) row True (h j m (due j m))
  so-whole k row Out due ne h = (
    (λ j m. elim (h.0 j m (due j m)) [ inl a ↦ inl (settled-here l (tree_at trees j) row True a) | inr b ↦ inr (settled-here l (tree_at trees j) row Out b) ]),
    (let w = h.1 in (w.0, w.1, settled-here l (tree_at trees w.0) row Out w.2)),
  )

  -- a conjunct among these is not False
  pub so-kept : (P : ℕ → Type 0) (row : List V) (t : Truth) → t ≢ False → IsSoFar l trees row P t → (j : ℕ) → j < length trees → P j
      → IsTreeTruth l (tree_at trees j) row True ⊎ IsTreeTruth l (tree_at trees j) row Out
  unfolding IsSoFar
  so-kept P row False ne h j m p = absurd (ne refl)
  so-kept P row True ne h j m p = inl (settled-here l (tree_at trees j) row True (h j m p))
  so-kept P row Out ne h j m p = elim (h.0 j m p) [ inl a ↦ inl (settled-here l (tree_at trees j) row True a) | inr b ↦ inr (settled-here l (tree_at trees j) row Out b) ]

  -- ---- conjuncts one after another

  -- the first i of these conjuncts that need at most k values, and others
  abbrev pub IsFirst : ℕ → List ℕ → ℕ → ℕ → Type 0
  IsFirst k conjuncts i j = IsLeafOrBelow l trees k j ⊎ ((n : ℕ) × (n < i) × (get_or conjuncts n 0 ≡ j)) × NeedsWithin l trees k j

  module _ (k : ℕ) (row : List V) (long : length row ≡ k) (conjuncts : List ℕ) where
    pub first-none : (t : Truth) → IsSoFar l trees row (IsLeafOrBelow l trees k) t → IsSoFar l trees row (IsFirst k conjuncts 0) t
    first-none t h = so-fewer (IsLeafOrBelow l trees k) (IsFirst k conjuncts 0) row t (λ j m p. elim p [ inl q ↦ q | inr w ↦ absurd (let n = w.0.1 in omega arith) ]) h

    pub first-next : (i c : ℕ) (t : Truth) (known : Option Truth) → get_or conjuncts i 0 ≡ c → c < length trees → touches l k (tree_at trees c) ≡ true
        → t ≢ False → IsSoFar l trees row (IsFirst k conjuncts i) t → IsKnown l (tree_at trees c) row known
        → IsSoFar l trees row (IsFirst k conjuncts (i + 1)) (joined t known)
    first-next i c t None is near at ne h later = so-fewer (IsFirst k conjuncts i) (IsFirst k conjuncts (i + 1)) row t
        (λ j m p. elim p [
          | inl q ↦ inl q
          | inr w ↦ let n = w.0 in elim (cases_eq n.0 i) [
            | inl e ↦ absurd (let same : c ≡ j = sym is ∙ sym (ap (λ x. get_or conjuncts x 0) e) ∙ n.2 in
                let low : due_of l (tree_at trees c) ≤ k = subst (λ x. due_of l (tree_at trees x) ≤ k) (sym same) w.1 in omega (arith, later, low, long))
            | inr other ↦ inr ((n.0, (let z = n.1 in omega arith), n.2), w.1)
          ]
        ]) h
    first-next i c t (Some u) is near at ne h known =
        so-fewer (OrThis (IsFirst k conjuncts i) row c near) (IsFirst k conjuncts (i + 1)) row (conjoined t u)
        (λ j m p. elim p [
          | inl q ↦ inl (inl q)
          | inr w ↦ let n = w.0 in elim (cases_eq n.0 i) [
            | inl e ↦ inr (sym n.2 ∙ ap (λ x. get_or conjuncts x 0) e ∙ is)
            | inr other ↦ inl (inr ((n.0, (let z = n.1 in omega arith), n.2), w.1))
          ]
        ])
        (so-more (IsFirst k conjuncts i) row c near t u ne (subst (λ n. touches l n (tree_at trees c) ≡ true) (sym long) at) h known)

    pub first-all : (t : Truth) → IsSoFar l trees row (IsFirst k conjuncts (length conjuncts)) t → IsSoFar l trees row (IsAmong l trees k conjuncts) t
    first-all t h = so-fewer (IsFirst k conjuncts (length conjuncts)) (IsAmong l trees k conjuncts) row t
        (λ j m p. elim p [ inl q ↦ inl q | inr w ↦ let c = w.0 in inr ((c.0, c.1, get_or_default conjuncts c.0 0 j c.1 ∙ c.2), w.1) ]) h

  -- ---- which conjuncts a number of values touches

  or-left : (a b : Bool) → a ≡ true → (a || b) ≡ true
  or-left true b e = refl
  or-left false b e = absurd (cc)

  or-right : (a b : Bool) → b ≡ true → (a || b) ≡ true
  or-right true b e = refl
  or-right false b e = e

  either-due : (a b : Tree) → touches l (due_of l a) a ≡ true → touches l (due_of l b) b ≡ true → (touches l (max (due_of l a) (due_of l b)) a || touches l (max (due_of l a) (due_of l b)) b) ≡ true
  either-due a b h k = elim (cases_lt (due_of l a) (due_of l b)) [
    | inl low ↦ or-right (touches l (max (due_of l a) (due_of l b)) a) (touches l (max (due_of l a) (due_of l b)) b) (subst (λ n. touches l n b ≡ true) (omega arith) k)
    | inr high ↦ or-left (touches l (max (due_of l a) (due_of l b)) a) (touches l (max (due_of l a) (due_of l b)) b) (subst (λ n. touches l n a ≡ true) (omega arith) h)
  ]

  touches-due : (tree : Tree) → touches l (due_of l tree) tree ≡ true
  touches-due (leaf c) = eq-eqb (l.due c) (l.due c) refl
  touches-due (negated a) = touches-due a
  touches-due (both a b) = either-due a b (touches-due a) (touches-due b)
  touches-due (either a b) = either-due a b (touches-due a) (touches-due b)

  -- a tree is a leaf, or it has a leaf inside that needs as many values as it
  leaf-or-inside : (tree : Tree) → ((c : ℕ) × (tree ≡ leaf c)) ⊎ (touches_inside l (due_of l tree) tree ≡ true)
  leaf-or-inside (leaf c) = inl (c, refl)
  leaf-or-inside (negated a) = inr (touches-due a)
  leaf-or-inside (both a b) = inr (either-due a b (touches-due a) (touches-due b))
  leaf-or-inside (either a b) = inr (either-due a b (touches-due a) (touches-due b))

  inside-touches : (k : ℕ) (tree : Tree) → touches_inside l k tree ≡ true → touches l k tree ≡ true
  inside-touches k (leaf c) h = absurd (let z : false ≡ true = h in cc)
  inside-touches k (negated a) h = h
  inside-touches k (both a b) h = h
  inside-touches k (either a b) h = h

  -- a value touches those that are listed with it
  pub touched-each : (k : ℕ) (numbers : List ℕ) → AreTouched l trees k (length trees) numbers → (i : ℕ) → i < length numbers → touches l k (tree_at trees (get_or numbers i 0)) ≡ true
  touched-each k numbers touched i near = inside-touches k (tree_at trees (get_or numbers i 0)) (touched.only (get_or numbers i 0) (i, near, get_or_default numbers i (get_or numbers i 0) 0 near))

  -- all conjuncts that need at most k values are among those that were tested
  pub so-within : (k : ℕ) (row : List V) (numbers : List ℕ) (t : Truth) → AreTouched l trees k (length trees) numbers
      → IsSoFar l trees row (IsAmong l trees k numbers) t → IsSoFar l trees row (NeedsWithin l trees k) t
  so-within k row numbers t touched h = so-fewer (IsAmong l trees k numbers) (NeedsWithin l trees k) row t (λ j m low. elim (cases_lt (due_of l (tree_at trees j)) k) [
    | inl below ↦ inl (inl below)
    | inr high ↦
        let e : due_of l (tree_at trees j) ≡ k = omega (arith, low, high) in
        elim (leaf-or-inside (tree_at trees j)) [
          | inl w ↦ inl (inr (w.0, (w.1, sym (ap (due_of l) w.1) ∙ e)))
          | inr inside ↦ inr (touched.all j m (subst (λ n. touches_inside l n (tree_at trees j) ≡ true) e inside), low)
        ]
  ]) h

  -- ---- leaves that are tested

  module _ (keep : KeepTruths l) (within : HaveLeavesWithin l.number trees) (ranges : List (List V)) (places : List ℕ) (w : AreWithin ranges places)
      (leaves : List ℕ) (due : AreDue l trees (length places) (length trees) leaves) where
    abbrev road : List V
    road = picked ranges places

    -- those that are due there are leaves of conjuncts
    pub leaf-at : (i : ℕ) → i < length leaves → (j : ℕ) × (j < length trees) × IsLeafDue l (length places) (tree_at trees j) (get_or leaves i 0)
    leaf-at i near = due.only (get_or leaves i 0) (i, near, get_or_default leaves i (get_or leaves i 0) 0 near)

    pub leaf-low : (j c : ℕ) → j < length trees → tree_at trees j ≡ leaf c → c < l.number
    leaf-low j c m e = subst (HasLeavesWithin l.number) e (within j (leaf 0) m)

    settled-so : (j c : ℕ) (t : Truth) → j < length trees → IsLeafDue l (length places) (tree_at trees j) c → l.says c road t → IsSettled l (tree_at trees j) road t
    settled-so j c t m is s =
        subst (λ tree. IsSettled l tree road t) (sym is.0)
        (settled-leaf l keep ranges places w c t (leaf-low j c m is.0) (omega (arith, is.1))
        (subst (λ k. l.says c (picked ranges k) t) (sym (take_all (l.due c) places (omega (arith, is.1)))) s))

    -- one of them by its place
    found-at : (j c : ℕ) → j < length trees → IsLeafDue l (length places) (tree_at trees j) c → (i : ℕ) × (i < length leaves) × (get_or leaves i 0 ≡ c)
    found-at j c m is = let f = due.all j c m is in (f.0, f.1, get_or_default leaves f.0 0 c f.1 ∙ f.2)

    refuting-leaf : (i : ℕ) × (i < length leaves) × l.says (get_or leaves i 0) road False → IsRefuted l trees road
    refuting-leaf (i, near, s) =
        let at = leaf-at i near in
        let is = at.2 in (
          at.0,
          at.1,
          settled-so at.0 (get_or leaves i 0) False at.1 is s,
          subst (λ tree. touches l (length road) tree ≡ true) (sym is.0) (eq-eqb (l.due (get_or leaves i 0)) (length road) (is.1 ∙ sym (length-picked ranges places w))),
        )

    some-leaf : (t : Truth) → (i : ℕ) × (i < length leaves) × l.says (get_or leaves i 0) road t → (j : ℕ) × (j < length trees) × IsSettled l (tree_at trees j) road t
    some-leaf t (i, near, s) = let at = leaf-at i near in (at.0, at.1, settled-so at.0 (get_or leaves i 0) t at.1 at.2 s)

    not-false-there : (n : ℕ) → n ≡ length leaves → AreNotFalse l road leaves n → (j : ℕ) → j < length trees → (c : ℕ) × IsLeafDue l (length places) (tree_at trees j) c
        → IsSettled l (tree_at trees j) road True ⊎ IsSettled l (tree_at trees j) road Out
    not-false-there n e h j m (c, is) = let f = found-at j c m is in elim (h f.0 (omega (arith, f.1, e))) [
      | inl a ↦ inl (settled-so j c True m is (subst (λ d. l.says d road True) f.2 a))
      | inr b ↦ inr (settled-so j c Out m is (subst (λ d. l.says d road Out) f.2 b))
    ]

    pub so-tested : (before t : Truth) (n : ℕ) → before ≢ False → Tests l road leaves before t n
        → IsSoFar l trees road (NeedsBelow l trees (length places)) before → IsSoFar l trees road (IsLeafOrBelow l trees (length places)) t
    unfolding IsSoFar Tests
    so-tested False t n ne h k = absurd (ne refl)
    so-tested True False n ne h k = refuting-leaf (h.0, h.2, h.4)
    so-tested Out False n ne h k = refuting-leaf (h.0, h.2, h.4)
    so-tested Out True n ne h k = absurd (let z : Out ≡ True = h.1.0 in cc)
    so-tested True True n ne h k = λ j m p. elim p [
      | inl below ↦ k j m below
      | inr w ↦ let f = found-at j w.0 m w.1 in settled-so j w.0 True m w.1 (subst (λ c. l.says c road True) f.2 (h.1.1 f.0 (omega (arith, f.1, h.0))))
    ]
    so-tested True Out n ne h k = (
      (λ j m p. elim p [ inl below ↦ inl (k j m below) | inr w ↦ not-false-there n h.0 h.1.0 j m w ]),
      elim h.1.1 [ inl e ↦ absurd (let z : True ≡ Out = e in cc) | inr w ↦ some-leaf Out (w.0, (let z = w.1 in omega (arith, h.0)), w.2) ],
    )
    so-tested Out Out n ne h k = ((λ j m p. elim p [ inl below ↦ k.0 j m below | inr w ↦ not-false-there n h.0 h.1.0 j m w ]), k.1)

    -- what these leaves come to is reported of their conjuncts
    pub told-so : (t : Truth) → IsTruthOfLeaves l road leaves (length leaves) t → IsTold l trees road (length places) t
    told-so False h = refuting-leaf h
    told-so True h = λ j c m is. let f = found-at j c m is in settled-so j c True m is (subst (λ d. l.says d road True) f.2 (h f.0 f.1))
    told-so Out h = h
