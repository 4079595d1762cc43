-- What tables tell of conjuncts is so.
use Rattle.zf_walk.proofs.Prelude.{◌*◌, ◌++◌, ◌+◌, ◌<◌, ◌^◌, ◌∙◌, ◌∷◌, ◌≡◌, ◌≤◌, [], ap, arith, Bool, false, get_or, inl, inr, length, length-append, List, None, Option, refl, set, Some, subst, suc, sym, true, zero, ℕ, cases_eq, cases_lt, false≢true, get_or-set_other, get_or-set_same, get_or_append_left, get_or_default, length-set, IfSome, slice_get, Conjuncts, FollowUsed, AreWithin, picked, Truth, Table, Used, get_or-append_seam, AreTables, AreUsed, combinations, Fits, HavePlaces, IsMarked, IsTableOf, Keeps, number, told}
use Rattle.zf_walk.specs.declared.entry.Entry.TheVariants.{Unknown}
use Rattle.zf_walk.proofs.Marking.{unmarked-new}
use Rattle.zf_walk.proofs.Lists.{Contains-head, Contains-nil, Contains-left, Contains-right, Contains-either, Contains-cases}
use Rattle.zf_walk.proofs.Picks.{slice_get-picked, length-picked}
use Rattle.zf_walk.proofs.Numbering.{number-same}

-- ---- used components

module _ {V : Type 0} (ranges : List (List V)) (uses : ℕ → Bool) where
  pub used-none : AreUsed ranges uses 0 []
  used-none = record { each = λ u m. absurd (Contains-nil u m); all = λ k l is. absurd (omega arith) }

  pub used-more : (n : ℕ) (us : List Used) (u : Used) → u.component ≡ n → u.count ≡ length (get_or ranges n []) → AreUsed ranges uses n us → AreUsed ranges uses (n + 1) (us ++ u ∷ [])
  used-more n us u at count a = record {
    each = λ w m. elim (Contains-either us (u ∷ []) w m) [
      | inl before ↦ let e = a.each w before in (omega (arith, e.0), e.1)
      | inr last ↦ elim (Contains-cases u [] w last) [
        | inl same ↦ subst (λ (v : Used). (v.component < n + 1) × (v.count ≡ length (get_or ranges v.component []))) same
            (omega arith, count ∙ ap (λ k. length (get_or ranges k [])) (sym at))
        | inr none ↦ absurd (Contains-nil w none)
      ]
    ];
    all = λ k l is. elim (cases_eq k n) [
      | inl same ↦ (u, Contains-right us (u ∷ []) u (Contains-head u []), at ∙ sym same)
      | inr other ↦ let e = a.all k (omega arith) is in (e.0, Contains-left us (u ∷ []) e.0 e.1, e.2)
    ];
  }

  pub used-skip : (n : ℕ) (us : List Used) → uses n ≡ false → AreUsed ranges uses n us → AreUsed ranges uses (n + 1) us
  used-skip n us unused a = record {
    each = λ w m. let e = a.each w m in (omega (arith, e.0), e.1);
    all = λ k l is. elim (cases_eq k n) [ inl same ↦ absurd (false≢true (sym unused ∙ ap uses (sym same) ∙ is)) | inr other ↦ a.all k (omega arith) is ];
  }

  -- a row has a place for each
  pub places-used : (n : ℕ) (us : List Used) (places : List ℕ) → AreUsed ranges uses n us → AreWithin ranges places → n ≡ length places → HavePlaces us places
  places-used n us places a w l u m =
      let e = a.each u m in
      let near : u.component < length places = omega (arith, e.0) in
      (near, omega (arith, e.1, w.each u.component near))

  -- past its end nothing stands in a list
  get-past : (row : List V) (k : ℕ) → length row ≤ k → slice_get row k ≡ None
  get-past [] k h = refl
  get-past (v ∷ row) zero h = absurd (omega arith)
  get-past (v ∷ row) (suc k) h = get-past row k (omega arith)

  -- rows with one number agree in what is used
  pub same-used : (us : List Used) (places others : List ℕ) → AreUsed ranges uses (length places) us → AreWithin ranges places → AreWithin ranges others
      → length places ≡ length others → number 0 us others ≡ number 0 us places
      → (k : ℕ) → uses k ≡ true → slice_get (picked ranges places) k ≡ slice_get (picked ranges others) k
  same-used us places others a w v l e k is = elim (cases_lt k (length places)) [
    | inl near ↦ let u = a.all k near is in
        let same = number-same us places others 0 0 (places-used (length places) us places a w refl) (places-used (length places) us others a v l) (sym e) in
        let here : get_or places k 0 ≡ get_or others k 0 = subst (λ i. get_or places i 0 ≡ get_or others i 0) u.2 (same.1 u.0 u.1) in
        slice_get-picked ranges places k w near ∙ ap (slice_get (get_or ranges k [])) here ∙ sym (slice_get-picked ranges others k v (omega arith))
    | inr far ↦ get-past (picked ranges places) k (omega (arith, length-picked ranges places w)) ∙ sym (get-past (picked ranges others) k (omega (arith, length-picked ranges others v)))
  ]

pub combinations-more : (us : List Used) (u : Used) → combinations (us ++ u ∷ []) ≡ combinations us * u.count
combinations-more [] u = omega arith
combinations-more (w ∷ us) u = let e = ap (λ n. w.count * n) (combinations-more us u) in omega (arith, e)

-- ---- what is known of one conjunct

module _ {V : Type 0} {s : Conjuncts V} {uses : ℕ → ℕ → Bool} {ranges : List (List V)} {c : ℕ} where
  -- nothing is known in a new table
  pub table-new : (t : Table) → AreUsed ranges (uses c) (s.due c) t.used.items → combinations t.used.items < 2 ^ 64 → t.entries.items ≡ [] → t.seen.items ≡ [] → IsTableOf s uses ranges c t
  table-new t used few none nothing = record {
    used = used;
    few = few;
    truths = λ places u w l e. let never : None ≡ Some u = ap (λ es. told (get_or es (number 0 t.used.items places) Unknown)) (sym none) ∙ e in absurd (cc);
    marks = λ places u w l m. absurd (unmarked-new t (number 0 t.used.items places) u nothing m);
  }

  module _ {old : Table} (h : IsTableOf s uses ranges c old) {places : List ℕ} (w : AreWithin ranges places) (due : s.due c ≡ length places) where
    pub table-fits : Fits places old
    table-fits = record { used = places-used ranges (uses c) (s.due c) old.used.items places h.used w due; few = h.few }

    -- a truth that is kept is one on each row that agrees in what is used
    pub kept-so : FollowUsed s uses → c < s.number → (kept : Truth) → s.says c (picked ranges places) kept → (new : Table) → Keeps places kept old new → IsTableOf s uses ranges c new
    kept-so follow near kept says new k = record {
      used = subst (AreUsed ranges (uses c) (s.due c)) (sym k.used) h.used;
      few = subst (λ us. combinations us < 2 ^ 64) (sym k.used) h.few;
      truths = λ others u v l e. elim (k.truths others u e) [
        | inl before ↦ h.truths others u v l before
        | inr now ↦ subst (s.says c (picked ranges others)) (sym now.1) (so-there others v l now.0)
      ];
      marks = λ others u v l m.
          let n : number 0 new.used.items others ≡ number 0 old.used.items others = ap (λ us. number 0 us others) k.used in
          elim (k.marks (number 0 new.used.items others) u m) [
            | inl before ↦ h.marks others u v l (subst (λ j. IsMarked old j u) n before)
            | inr now ↦ subst (s.says c (picked ranges others)) (sym now.1) (so-there others v l (sym n ∙ now.0))
          ];
    } where
      so-there : (others : List ℕ) → AreWithin ranges others → s.due c ≡ length others → number 0 old.used.items others ≡ number 0 old.used.items places → s.says c (picked ranges others) kept
      so-there others v l same =
          follow c (picked ranges places) (picked ranges others) kept near
          (omega (arith, length-picked ranges places w)) (omega (arith, length-picked ranges others v))
          (same-used ranges (uses c) old.used.items places others (subst (λ n. AreUsed ranges (uses c) n old.used.items) due h.used) w v (sym due ∙ l) same) says

-- ---- what is known of all

pub tables-none : {V : Type 0} (s : Conjuncts V) (uses : ℕ → ℕ → Bool) (ranges : List (List V)) (ts : List (Option Table)) → ts ≡ [] → AreTables s uses ranges 0 ts
tables-none s uses ranges ts e = record { all = ap length e; each = λ c l. absurd (omega arith) }

module _ {V : Type 0} {s : Conjuncts V} {uses : ℕ → ℕ → Bool} {ranges : List (List V)} {n : ℕ} {ts : List (Option Table)} (a : AreTables s uses ranges n ts) where
  pub table-at : (c : ℕ) (o : Option Table) (t : Table) → c < n → o ≡ get_or ts c o → o ≡ Some t → IsTableOf s uses ranges c t
  table-at c o t near is some = subst (λ p. IfSome p (IsTableOf s uses ranges c)) (get_or_default ts c None o (omega (arith, a.all)) ∙ sym is ∙ some) (a.each c near)

  pub tables-more : (o : Option Table) → IfSome o (IsTableOf s uses ranges n) → AreTables s uses ranges (n + 1) (ts ++ o ∷ [])
  tables-more o h = record {
    all = omega (arith, length-append ts (o ∷ []), a.all);
    each = λ c l. elim (cases_eq c n) [
      | inl same ↦ subst (λ k. IfSome (get_or (ts ++ o ∷ []) k None) (IsTableOf s uses ranges k)) (a.all ∙ sym same)
          (subst (λ p. IfSome p (IsTableOf s uses ranges (length ts))) (sym (get_or-append_seam ts o [] None)) (subst (λ k. IfSome o (IsTableOf s uses ranges k)) (sym a.all) h))
      | inr other ↦ subst (λ p. IfSome p (IsTableOf s uses ranges c)) (sym (get_or_append_left ts (o ∷ []) None c (omega (arith, a.all)))) (a.each c (omega arith))
    ];
  }

  pub tables-set : (c : ℕ) (o : Option Table) → c < n → IfSome o (IsTableOf s uses ranges c) → AreTables s uses ranges n (set ts c o)
  tables-set c o near h = record {
    all = length-set ts c o ∙ a.all;
    each = λ d l. elim (cases_eq d c) [
      | inl same ↦ subst (λ k. IfSome (get_or (set ts c o) k None) (IsTableOf s uses ranges k)) (sym same)
          (subst (λ p. IfSome p (IsTableOf s uses ranges c)) (sym (get_or-set_same ts c o None (omega (arith, a.all)))) h)
      | inr other ↦ subst (λ p. IfSome p (IsTableOf s uses ranges d)) (sym (get_or-set_other ts c d o None other)) (a.each d l)
    ];
  }
