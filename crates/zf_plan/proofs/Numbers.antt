-- Lists of conjuncts.
use Rattle.zf_plan.proofs.Prelude.{Bool, max, ◌≤◌, ◌++◌, ◌+◌, ◌<◌, ◌∙◌, ◌∷◌, ◌≡◌, [], ap, arith, false, get_or, inl, inr, length, length-append, List, refl, subst, suc, sym, true, zero, ℕ, get_or-append_seam, cases_lt, false≢true, get_or_append_left, get_or_default, AllPairs, Contains, Conjuncts, AreBelow, leaf, Tree, tree_at, Contains-cases, Contains-either, Contains-head, Contains-left, Contains-nil, Contains-right, AreChoosers, AreDue, AreLasts, AreTouched, IsLeafDue, touches_inside, UsesFirst, Layer}
use Rattle.zf_plan.proofs.Marking.{uses-more}
use Rattle.zf_plan.specs.declared.plan.Choosers.{Choosers}

-- the last one of a conjunct, and of the first i
abbrev IsLast : (ℕ → ℕ → Bool) → List Tree → ℕ → List ℕ → ℕ → ℕ → Type 0
IsLast uses trees k conjuncts m last = (last ≤ k) × UsesFirst uses last k (tree_at trees (get_or conjuncts m 0))

abbrev pub AreLastsSoFar : (ℕ → ℕ → Bool) → List Tree → ℕ → List ℕ → ℕ → List ℕ → Type 0
AreLastsSoFar uses trees k conjuncts i lasts = (length lasts ≡ i) × ((m : ℕ) → m < length lasts → IsLast uses trees k conjuncts m (get_or lasts m 0))

-- one item more, by the places of the items
pub each_push : {X : Type 0} (P : ℕ → X → Type 0) (xs : List X) (x d : X) → ((i : ℕ) → i < length xs → P i (get_or xs i d)) → P (length xs) x → (i : ℕ)
    → i < length (xs ++ x ∷ []) → P i (get_or (xs ++ x ∷ []) i d)
each_push P xs x d h p i l = elim (cases_lt i (length xs)) [
  | inl old ↦ subst (P i) (sym (get_or_append_left xs (x ∷ []) d i old)) (h i old)
  | inr new ↦
      let here : i ≡ length xs = omega (arith, length-append xs (x ∷ [])) in
      subst (λ k. P k (get_or (xs ++ x ∷ []) k d)) (sym here) (subst (P (length xs)) (sym (get_or-append_seam xs x [] d)) p)
]

-- one number more
pub below_push : (n : ℕ) (js : List ℕ) (j : ℕ) → AreBelow n js → j < n → AreBelow n (js ++ j ∷ [])
below_push n js j h l = each_push (λ i k. k < n) js j 0 h l

-- the layers so far
abbrev pub AreSoFar : (ℕ → Layer → Type 0) → ℕ → List Layer → Type 0
AreSoFar P k layers = (length layers ≡ k) × ((m : ℕ) (d : Layer) → m < length layers → P m (get_or layers m d))

pub so_far_more : (P : ℕ → Layer → Type 0) (k : ℕ) (layers new : List Layer) (layer : Layer) → new ≡ layers ++ layer ∷ [] → AreSoFar P k layers → P k layer → AreSoFar P (k + 1) new
so_far_more P k layers new layer e h p = subst (AreSoFar P (k + 1)) (sym e) (
  omega (arith, length-append layers (layer ∷ []), h.0),
  λ m d near. each_push P layers layer d (λ i. h.1 i d) (subst (λ n. P n layer) (sym h.0) p) m near,
)

-- ---- the conjuncts that a number of values touches

module _ {V : Type 0} (l : Conjuncts V) (trees : List Tree) (k : ℕ) where
  pub touched_skip : (n : ℕ) (numbers : List ℕ) → AreTouched l trees k n numbers → touches_inside l k (tree_at trees n) ≡ false → AreTouched l trees k (n + 1) numbers
  touched_skip n numbers t no' = record {
    below = λ i h. let b = t.below i h in omega arith;
    all = λ c h so. elim (cases_lt c n) [ inl old ↦ t.all c old so | inr new ↦ absurd (false≢true (sym no' ∙ ap (λ i. touches_inside l k (tree_at trees i)) (omega arith) ∙ so)) ];
    only = t.only;
  }

  pub touched_push : (n : ℕ) (numbers : List ℕ) → AreTouched l trees k n numbers → touches_inside l k (tree_at trees n) ≡ true → AreTouched l trees k (n + 1) (numbers ++ n ∷ [])
  touched_push n numbers t yes' = record {
    below = below_push (n + 1) numbers n (λ i h. let b = t.below i h in omega arith) (omega arith);
    all = λ c h so. elim (cases_lt c n) [
      | inl old ↦ Contains-left numbers (n ∷ []) c (t.all c old so)
      | inr new ↦ subst (Contains (numbers ++ n ∷ [])) (omega arith) (Contains-right numbers (n ∷ []) n (Contains-head n []))
    ];
    only = λ c m. elim (Contains-either numbers (n ∷ []) c m) [
      | inl old ↦ t.only c old
      | inr new ↦ elim (Contains-cases n [] c new) [ inl e ↦ subst (λ i. touches_inside l k (tree_at trees i) ≡ true) e yes' | inr none ↦ absurd (Contains-nil c none) ]
    ];
  }

  -- where each conjunct is a leaf none is touched inside
  pub touched_flat : (n : ℕ) (numbers : List ℕ) → AreTouched l trees k n numbers → ((j : ℕ) → j < n → tree_at trees j ≡ leaf j) → numbers ≡ []
  touched_flat n [] t flat = refl
  touched_flat n (j ∷ numbers) t flat =
      absurd (false≢true (sym (ap (touches_inside l k) (flat j (t.below 0 (omega arith)))) ∙ t.only j (Contains-head j numbers)))

  -- ---- the leaves that are conjuncts

  pub due_skip : (n : ℕ) (leaves : List ℕ) → AreDue l trees k n leaves → ((c : ℕ) → IsLeafDue l k (tree_at trees n) c → ⊥) → AreDue l trees k (n + 1) leaves
  due_skip n leaves d none = record {
    all = λ j c h is. elim (cases_lt j n) [ inl old ↦ d.all j c old is | inr new ↦ absurd (none c (subst (λ i. IsLeafDue l k (tree_at trees i) c) (omega arith) is)) ];
    only = λ c m. let w = d.only c m in (w.0, (let z = w.1 in omega arith), w.2);
    ascending = λ flat. d.ascending (λ j h. flat j (omega arith));
  }

  leaf-same : (b c : ℕ) → leaf b ≡ leaf c → b ≡ c
  leaf-same b c e = cc

  -- where each conjunct is the leaf with its number, the next one comes after those that are there
  module _ (n : ℕ) (leaves : List ℕ) (b : ℕ) (d : AreDue l trees k n leaves) (is : IsLeafDue l k (tree_at trees n) b) (flat : (j : ℕ) → j < n + 1 → tree_at trees j ≡ leaf j) where
    last : b ≡ n
    last = leaf-same b n (sym is.0 ∙ flat n (omega arith))

    earlier : (i : ℕ) → i < length leaves → get_or leaves i 0 < n
    earlier i near =
        let c = get_or leaves i 0 in
        let w = d.only c (i, near, get_or_default leaves i c 0 near) in
        let same : w.0 ≡ c = leaf-same w.0 c (sym (flat w.0 (let z = w.1 in omega arith)) ∙ w.2.0) in
        omega (arith, same, w.1)

    rising : AllPairs (λ i j. i < j) (leaves ++ b ∷ [])
    rising i j e less near = elim (cases_lt j (length leaves)) [
      | inl old ↦
          let x : get_or (leaves ++ b ∷ []) i e ≡ get_or leaves i e = get_or_append_left leaves (b ∷ []) e i (omega arith) in
          let y : get_or (leaves ++ b ∷ []) j e ≡ get_or leaves j e = get_or_append_left leaves (b ∷ []) e j old in
          omega (arith, x, y, d.ascending (λ m h. flat m (omega arith)) i j e less old)
      | inr new ↦
          let here : j ≡ length leaves = omega (arith, length-append leaves (b ∷ [])) in
          let before : i < length leaves = omega arith in
          let x : get_or (leaves ++ b ∷ []) i e ≡ get_or leaves i 0 = get_or_append_left leaves (b ∷ []) e i before ∙ get_or_default leaves i e 0 before in
          let y : get_or (leaves ++ b ∷ []) j e ≡ b = ap (λ m. get_or (leaves ++ b ∷ []) m e) here ∙ get_or-append_seam leaves b [] e in
          omega (arith, x, y, last, earlier i before)
    ]

  pub due_push : (n : ℕ) (leaves : List ℕ) (b : ℕ) → AreDue l trees k n leaves → IsLeafDue l k (tree_at trees n) b → AreDue l trees k (n + 1) (leaves ++ b ∷ [])
  due_push n leaves b d is = record {
    all = λ j c h so. elim (cases_lt j n) [
      | inl old ↦ Contains-left leaves (b ∷ []) c (d.all j c old so)
      | inr new ↦
          let same : b ≡ c = leaf-same b c (sym is.0 ∙ ap (tree_at trees) (omega arith) ∙ so.0) in
          subst (Contains (leaves ++ b ∷ [])) same (Contains-right leaves (b ∷ []) b (Contains-head b []))
    ];
    only = λ c m. elim (Contains-either leaves (b ∷ []) c m) [
      | inl old ↦ let w = d.only c old in (w.0, (let z = w.1 in omega arith), w.2)
      | inr new ↦ elim (Contains-cases b [] c new) [ inl e ↦ (n, omega arith, subst (IsLeafDue l k (tree_at trees n)) e is) | inr none ↦ absurd (Contains-nil c none) ]
    ];
    ascending = λ flat. rising n leaves b d is flat;
  }

-- the same item everywhere
pub default_push : {X : Type 0} (d : X) (xs : List X) → ((k : ℕ) → get_or xs k d ≡ d) → (m : ℕ) → get_or (xs ++ d ∷ []) m d ≡ d
default_push d [] h zero = refl
default_push d [] h (suc m) = refl
default_push d (x ∷ xs) h zero = h 0
default_push d (x ∷ xs) h (suc m) = default_push d xs (λ k. h (suc k)) m

-- ---- of how many first values they are

pub lasts_push : (uses : ℕ → ℕ → Bool) (trees : List Tree) (k : ℕ) (conjuncts lasts : List ℕ) (i last used : ℕ) → AreLastsSoFar uses trees k conjuncts i lasts → last ≤ k → used ≤ k
    → UsesFirst uses used k (tree_at trees (get_or conjuncts i 0)) → AreLastsSoFar uses trees k conjuncts (i + 1) (lasts ++ max used last ∷ [])
lasts_push uses trees k conjuncts lasts i last used so low within u = (
  omega (arith, length-append lasts (max used last ∷ []), so.0),
  each_push (IsLast uses trees k conjuncts) lasts (max used last) 0 so.1
      (subst (λ m. IsLast uses trees k conjuncts m (max used last)) (sym so.0) (omega arith, uses-more uses used (max used last) k (omega arith) (tree_at trees (get_or conjuncts i 0)) u)),
)

pub no-choosers : (uses : ℕ → ℕ → Bool) (trees : List Tree) (k : ℕ) (by : Choosers) → by.conjuncts.items ≡ [] → by.lasts.items ≡ [] → AreChoosers uses trees k by
no-choosers uses trees k by none empty = record {
  conjuncts = subst (AreBelow (length trees)) (sym none) (λ i h. absurd (omega arith));
  lasts = subst (λ js. AreLasts uses trees k js by.lasts.items) (sym none) (subst (AreLasts uses trees k []) (sym empty) (record { all = refl; each = λ i h. absurd (omega arith) }));
}
