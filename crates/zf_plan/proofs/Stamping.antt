-- What stamps say of leaves, and how they are forgotten by new ones.
use Rattle.zf_plan.proofs.Prelude.{◌+◌, ◌<◌, ◌∙◌, ◌≡◌, ◌≤◌, ap, arith, cond, eqb, get_or, inl, inr, length, List, map, None, Option, refl, set, Some, subst, sym, ℕ, cases_eq, cases_lt, get_or-set_other, get_or-set_same, length-map, length-set, slice_get-get_or, slice_get_within, slice_get_read, ◌≢◌, True, ne_eqb, eq-eqb, ext_get_or, get_or-map, get_or_past, map-id, map-set, map-set_same, get_or_from_slice_get, Table, Stamped, AreStamped, cleared, Forgets, known_by, memory_of}

-- a leaf that is read
pub stamped-at : (stamps : List ℕ) (leaves : List Stamped) → AreStamped stamps leaves → (c : ℕ) (s : Stamped) → c < length leaves → s ≡ get_or leaves c s
    → (s.due < length stamps) × (s.stamp ≤ get_or stamps s.due 0)
stamped-at stamps leaves a c s near is = a.each c s (slice_get_read leaves (length leaves) c s refl near is)

pub known-at : (stamps : List ℕ) (leaves : List Stamped) (c : ℕ) (s : Stamped) → c < length leaves → s ≡ get_or leaves c s → get_or (map (known_by stamps) leaves) c None ≡ known_by stamps s
known-at stamps leaves c s near is = get_or-map (known_by stamps) leaves c s None near ∙ ap (known_by stamps) (sym is)

pub due-at : (leaves : List Stamped) (c : ℕ) (s : Stamped) → c < length leaves → s ≡ get_or leaves c s → get_or (map (λ (t : Stamped). t.due) leaves) c 0 ≡ s.due
due-at leaves c s near is = get_or-map (λ (t : Stamped). t.due) leaves c s 0 near ∙ ap (λ (t : Stamped). t.due) (sym is)

-- under the stamp of as many values as it needs a leaf is known, and under a lesser one it is not
pub known-now : (stamps : List ℕ) (s : Stamped) → s.stamp ≡ get_or stamps s.due 0 → known_by stamps s ≡ Some s.truth
known-now stamps s e = ap (λ b. cond b (Some s.truth) None) (eq-eqb s.stamp (get_or stamps s.due 0) e)

pub known-not : (stamps : List ℕ) (s : Stamped) → s.stamp ≢ get_or stamps s.due 0 → known_by stamps s ≡ None
known-not stamps s e = ap (λ b. cond b (Some s.truth) None) (ne_eqb s.stamp (get_or stamps s.due 0) e)

-- ---- new stamps

-- a leaf that f changes needs as many values, is known as before if these are not k, and else not known
pub record Renews (k : ℕ) (stamps new : List ℕ) (f : Stamped → Stamped) (s : Stamped) : Type 0 where
  pub due : (f s).due ≡ s.due
  pub stamp : (f s).stamp ≤ get_or new s.due 0
  pub other : s.due ≢ k → known_by new (f s) ≡ known_by stamps s
  pub none : s.due ≡ k → known_by new (f s) ≡ None

module _ (k : ℕ) (stamps new : List ℕ) (f : Stamped → Stamped) (leaves : List Stamped) (a : AreStamped stamps leaves)
    (renews : (s : Stamped) → s.due < length stamps → s.stamp ≤ get_or stamps s.due 0 → Renews k stamps new f s) where
  some : Stamped
  some = record { due = 0; stamp = 0; truth = True }

  at : (c : ℕ) → c < length leaves → Renews k stamps new f (get_or leaves c some)
  at c near = let s = get_or leaves c some in let h = a.each c s (slice_get-get_or leaves c some near) in renews s h.0 h.1

  told-at : (c : ℕ) → c < length leaves → get_or (map (known_by new) (map f leaves)) c None ≡ known_by new (f (get_or leaves c some))
  told-at c near = get_or-map (known_by new) (map f leaves) c (f some) None (omega (arith, near, length-map leaves f)) ∙ ap (known_by new) (get_or-map f leaves c some (f some) near)

  stays : (c : ℕ) → c < length leaves → get_or (map (λ (s : Stamped). s.due) (map f leaves)) c 0 ≡ get_or (map (λ (s : Stamped). s.due) leaves) c 0
  stays c near =
      let s = get_or leaves c some in
      let r = at c near in
      get_or-map (λ (t : Stamped). t.due) (map f leaves) c (f some) 0 (omega (arith, near, length-map leaves f))
      ∙ ap (λ (t : Stamped). t.due) (get_or-map f leaves c some (f some) near) ∙ r.due ∙ sym (get_or-map (λ (t : Stamped). t.due) leaves c some 0 near)

  due-is : (c : ℕ) → c < length leaves → get_or (map (λ (s : Stamped). s.due) leaves) c 0 ≡ (get_or leaves c some).due
  due-is c near = get_or-map (λ (t : Stamped). t.due) leaves c some 0 near

  long : length (map (known_by new) (map f leaves)) ≡ length leaves
  long = length-map (map f leaves) (known_by new) ∙ length-map leaves f

  pub renewed : length new ≡ length stamps → ((i : ℕ) → i < length new → 0 < get_or new i 0) → AreStamped new (map f leaves)
  renewed e first = record {
    some = first;
    each = λ c s is.
        let near : c < length leaves = omega (arith, slice_get_within (map f leaves) c s is, length-map leaves f) in
        let old = get_or leaves c some in
        let r = at c near in
        let h = a.each c old (slice_get-get_or leaves c some near) in
        let same : f old ≡ s = sym (get_or-map f leaves c some (f some) near) ∙ get_or_from_slice_get (map f leaves) c s (f some) is in
        let due : s.due ≡ old.due = ap (λ (t : Stamped). t.due) (sym same) ∙ r.due in (
          omega (arith, h.0, e, due),
          subst (λ (t : Stamped). t.stamp ≤ get_or new t.due 0) same (subst (λ i. (f old).stamp ≤ get_or new i 0) (sym r.due) r.stamp),
        );
  }

  pub forgotten : (tables : List (Option Table)) (tests : ℕ) → Forgets k (memory_of stamps leaves tables tests) (memory_of new (map f leaves) tables tests)
  forgotten tables tests = record {
    dues = ext_get_or 0 _ _ (length-map (map f leaves) (λ (s : Stamped). s.due) ∙ length-map leaves f ∙ sym (length-map leaves (λ (s : Stamped). s.due)))
        (λ c near. stays c (omega (arith, near, length-map (map f leaves) (λ (s : Stamped). s.due), length-map leaves f)));
    all = long ∙ sym (length-map leaves (known_by stamps));
    others = λ c ne. elim (cases_lt c (length leaves)) [
      | inl near ↦ let r = at c near in
          told-at c near ∙ r.other (λ e. ne (due-is c near ∙ e)) ∙ sym (get_or-map (known_by stamps) leaves c some None near)
      | inr far ↦ get_or_past (map (known_by new) (map f leaves)) c None (omega (arith, far, long))
          ∙ sym (get_or_past (map (known_by stamps) leaves) c None (omega (arith, far, length-map leaves (known_by stamps))))
    ];
    none = λ c e. elim (cases_lt c (length leaves)) [
      | inl near ↦ let r = at c near in told-at c near ∙ r.none (sym (due-is c near) ∙ e)
      | inr far ↦ get_or_past (map (known_by new) (map f leaves)) c None (omega (arith, far, long))
    ];
    tables = refl;
    tests = refl;
  }

-- ---- the next stamp, and the first one again

module _ (k : ℕ) (stamps : List ℕ) (within : k < length stamps) where
  first-set : (n : ℕ) → 0 < n → ((i : ℕ) → i < length stamps → 0 < get_or stamps i 0) → (i : ℕ) → i < length (set stamps k n) → 0 < get_or (set stamps k n) i 0
  first-set n some h i near = elim (cases_eq i k) [
    | inl e ↦ omega (arith, some, ap (λ j. get_or (set stamps k n) j 0) e, get_or-set_same stamps k n 0 within)
    | inr ne ↦ omega (arith, get_or-set_other stamps k i n 0 ne, h i (omega (arith, near, length-set stamps k n)))
  ]

  elsewhere : (n : ℕ) (s : Stamped) → s.due ≢ k → get_or (set stamps k n) s.due 0 ≡ get_or stamps s.due 0
  elsewhere n s ne = get_or-set_other stamps k s.due n 0 ne

  there : (n : ℕ) (s : Stamped) → s.due ≡ k → get_or (set stamps k n) s.due 0 ≡ n
  there n s e = ap (λ j. get_or (set stamps k n) j 0) e ∙ get_or-set_same stamps k n 0 within

  next-renews : (s : Stamped) → s.stamp ≤ get_or stamps s.due 0 → Renews k stamps (set stamps k (get_or stamps k 0 + 1)) (λ t. t) s
  next-renews s low = record {
    due = refl;
    stamp = elim (cases_eq s.due k) [
      | inl e ↦ omega (arith, low, there (get_or stamps k 0 + 1) s e, ap (λ j. get_or stamps j 0) e)
      | inr ne ↦ omega (arith, low, elsewhere (get_or stamps k 0 + 1) s ne)
    ];
    other = λ ne. ap (λ n. cond (eqb s.stamp n) (Some s.truth) None) (elsewhere (get_or stamps k 0 + 1) s ne);
    none = λ e. known-not (set stamps k (get_or stamps k 0 + 1)) s
        (λ same. absurd (omega (arith, same, low, there (get_or stamps k 0 + 1) s e, ap (λ j. get_or stamps j 0) e)));
  }

  cleared-is : (s : Stamped) → s.due ≡ k → cleared k s ≡ record { due = s.due; stamp = 0; truth = s.truth }
  cleared-is s e = ap (λ b. cond b (record { due = s.due; stamp = 0; truth = s.truth }) s) (eq-eqb s.due k e)

  cleared-not : (s : Stamped) → s.due ≢ k → cleared k s ≡ s
  cleared-not s ne = ap (λ b. cond b (record { due = s.due; stamp = 0; truth = s.truth }) s) (ne_eqb s.due k ne)

  cleared-renews : (s : Stamped) → s.stamp ≤ get_or stamps s.due 0 → Renews k stamps (set stamps k 1) (cleared k) s
  cleared-renews s low = elim (cases_eq s.due k) [
    | inl e ↦ let is = cleared-is s e in record {
      due = ap (λ (t : Stamped). t.due) is;
      stamp = omega (arith, ap (λ (t : Stamped). t.stamp) is);
      other = λ ne. absurd (ne e);
      none = λ _. ap (known_by (set stamps k 1)) is ∙ known-not (set stamps k 1) (record { due = s.due; stamp = 0; truth = s.truth }) (λ same. absurd (omega (arith, same, there 1 s e)));
    }
    | inr ne ↦ let is = cleared-not s ne in record {
      due = ap (λ (t : Stamped). t.due) is;
      stamp = omega (arith, ap (λ (t : Stamped). t.stamp) is, low, elsewhere 1 s ne);
      other = λ _. ap (known_by (set stamps k 1)) is ∙ ap (λ n. cond (eqb s.stamp n) (Some s.truth) None) (elsewhere 1 s ne);
      none = λ e. absurd (ne e);
    }
  ]

  module _ (leaves : List Stamped) (a : AreStamped stamps leaves) where
    pub next-stamped : AreStamped (set stamps k (get_or stamps k 0 + 1)) leaves
    next-stamped = subst (AreStamped (set stamps k (get_or stamps k 0 + 1))) (map-id leaves)
        (renewed k stamps (set stamps k (get_or stamps k 0 + 1)) (λ t. t) leaves a (λ s near low. next-renews s low) (length-set stamps k (get_or stamps k 0 + 1))
        (first-set (get_or stamps k 0 + 1) (omega arith) a.some))

    pub next-forgets : (tables : List (Option Table)) (tests : ℕ) → Forgets k (memory_of stamps leaves tables tests) (memory_of (set stamps k (get_or stamps k 0 + 1)) leaves tables tests)
    next-forgets tables tests = subst (λ ls. Forgets k (memory_of stamps leaves tables tests) (memory_of (set stamps k (get_or stamps k 0 + 1)) ls tables tests)) (map-id leaves)
        (forgotten k stamps (set stamps k (get_or stamps k 0 + 1)) (λ t. t) leaves a (λ s near low. next-renews s low) tables tests)

    pub cleared-stamped : AreStamped (set stamps k 1) (map (cleared k) leaves)
    cleared-stamped = renewed k stamps (set stamps k 1) (cleared k) leaves a (λ s near low. cleared-renews s low) (length-set stamps k 1) (first-set 1 (omega arith) a.some)

    pub cleared-forgets : (tables : List (Option Table)) (tests : ℕ) → Forgets k (memory_of stamps leaves tables tests) (memory_of (set stamps k 1) (map (cleared k) leaves) tables tests)
    cleared-forgets tables tests = forgotten k stamps (set stamps k 1) (cleared k) leaves a (λ s near low. cleared-renews s low) tables tests

-- nothing is forgotten where no leaf needs so many values
pub none-forgotten : (k : ℕ) (stamps : List ℕ) (leaves : List Stamped) → AreStamped stamps leaves → length stamps ≤ k
    → (tables : List (Option Table)) (tests : ℕ) → Forgets k (memory_of stamps leaves tables tests) (memory_of stamps leaves tables tests)
none-forgotten k stamps leaves a far tables tests = record {
  dues = refl;
  all = refl;
  others = λ c ne. refl;
  none = λ c e. elim (cases_lt c (length leaves)) [
    | inl near ↦ let s = get_or leaves c (record { due = 0; stamp = 0; truth = True }) in
        let h = a.each c s (slice_get-get_or leaves c (record { due = 0; stamp = 0; truth = True }) near) in
        let due = get_or-map (λ (t : Stamped). t.due) leaves c (record { due = 0; stamp = 0; truth = True }) 0 near in absurd (omega (arith, h.0, due, e, far))
    | inr past ↦ get_or_past (map (known_by stamps) leaves) c None (omega (arith, past, length-map leaves (known_by stamps)))
  ];
  tables = refl;
  tests = refl;
}

-- ---- a leaf that is asked for

module _ (stamps : List ℕ) (leaves : List Stamped) (a : AreStamped stamps leaves) (of : ℕ) (s : Stamped) (near : of < length leaves) (is : s.stamp ≡ get_or stamps s.due 0) where
  pub asked-stamped : s.due < length stamps → AreStamped stamps (set leaves of s)
  asked-stamped within = record {
    some = a.some;
    each = λ c t e. elim (cases_eq c of) [
      | inl same ↦ let t-is : s ≡ t = sym (get_or-set_same leaves of s s near) ∙ sym (ap (λ i. get_or (set leaves of s) i s) same) ∙ get_or_from_slice_get (set leaves of s) c t s e in
          (subst (λ (u : Stamped). u.due < length stamps) t-is within, subst (λ (u : Stamped). u.stamp ≤ get_or stamps u.due 0) t-is (omega (arith, is)))
      | inr other ↦ let inside : c < length leaves = omega (arith, slice_get_within (set leaves of s) c t e, length-set leaves of s) in
          let t-is : get_or leaves c t ≡ t = sym (get_or-set_other leaves of c s t other) ∙ get_or_from_slice_get (set leaves of s) c t t e in
          a.each c t (slice_get_read leaves (length leaves) c t refl inside (sym t-is))
    ];
  }

  pub asked-truths : map (known_by stamps) (set leaves of s) ≡ set (map (known_by stamps) leaves) of (Some s.truth)
  asked-truths = map-set (known_by stamps) leaves of s ∙ ap (set (map (known_by stamps) leaves) of) (known-now stamps s is)

  pub asked-dues : (old : Stamped) → old ≡ get_or leaves of old → s.due ≡ old.due → map (λ (t : Stamped). t.due) (set leaves of s) ≡ map (λ (t : Stamped). t.due) leaves
  asked-dues old there same = map-set_same (λ (t : Stamped). t.due) leaves of s old (same ∙ ap (λ (t : Stamped). t.due) there)
