-- Each node has a turn, where what is found in its parts is listed.
use Rattle.zf_graph.proofs.Prelude.{◌++◌, ◌+◌, ◌∙◌, ◌∷◌, ◌≡◌, ◌⊎◌, [], ap, Bool, inl, inr, List, map, refl, subst, sym, ℕ, append_assoc, AllPairs, Contains, AllPairs-across, AllPairs-cons, AllPairs-head, AllPairs-nil, AllPairs-tail, Contains-cases, Contains-either, Contains-head, Contains-later, Contains-left, Contains-nil, AreFinds, AreFirst, Begins, BeginsParts, BreaksParts, BreaksTurn, EachHolds, EachNodeHasTurn, Edge, explored_of, HasParts, HasTurn, IsOrderly, no_turn, Searched, Turn}
use Rattle.zf_graph.proofs.Finds.{first_of_all}

-- ---- fronts of lists

abbrev first : {X : Type 0} → X → List X → X
first d [] = d
first d (x ∷ xs) = x

abbrev others : {X : Type 0} → List X → List X
others [] = []
others (x ∷ xs) = xs

no_front : {X : Type 0} (xs more : List X) → [] ≡ xs ++ more → xs ≡ []
no_front [] more e = refl
no_front (x ∷ xs) more e = cc

-- where a list is cut twice, the one piece begins with the other
cuts : {X : Type 0} (fs more us rest : List X) → fs ++ more ≡ us ++ rest → ((d : List X) × (us ≡ fs ++ d)) ⊎ ((d : List X) × (fs ≡ us ++ d) × (rest ≡ d ++ more))
cuts [] more us rest e = inl (us, refl)
cuts (f ∷ fs) more [] rest e = inr (f ∷ fs, refl, sym e)
cuts (f ∷ fs) more (u ∷ us) rest e =
    let same : f ≡ u = ap (first f) e in
    elim (cuts fs more us rest (ap others e)) [
      | inl c ↦ inl (c.0, ap (λ w. u ∷ w) c.1 ∙ ap (λ h. h ∷ (fs ++ c.0)) (sym same))
      | inr c ↦ inr (c.0, ap (λ w. f ∷ w) c.1 ∙ ap (λ h. h ∷ (us ++ c.0)) same, c.2)
    ]

-- a front of what is mapped is mapped of a front
mapped : {X Y : Type 0} (f : X → Y) (xs : List X) (fs more : List Y) → map f xs ≡ fs ++ more → (ys : List X) × (zs : List X) × (xs ≡ ys ++ zs) × (fs ≡ map f ys)
mapped f xs [] more e = ([], xs, refl, refl)
mapped f [] (g ∷ fs) more e = cc
mapped f (x ∷ xs) (g ∷ fs) more e =
    let r = mapped f xs fs more (ap others e) in
    (x ∷ r.0, r.1, ap (λ w. x ∷ w) r.2, ap (λ w. g ∷ w) r.3 ∙ ap (λ h. h ∷ map f r.0) (sym (ap (first g) e)))

pairs_in_front : {X : Type 0} (R : X → X → Type 0) (ys zs : List X) → AllPairs R (ys ++ zs) → AllPairs R ys
pairs_in_front R [] zs p = AllPairs-nil R
pairs_in_front R (y ∷ ys) zs p = AllPairs-cons R y ys (λ x m. AllPairs-head R y (ys ++ zs) p x (Contains-left ys zs x m)) (pairs_in_front R ys zs (AllPairs-tail R y (ys ++ zs) p))

module _ {N L O X : Type 0} (s : Searched N L O X) (orderly : IsOrderly s) (a : N) where
  abbrev Edges : Type 0
  Edges = List (Edge N L)

  -- all that is found in a part, each of which holds or can't be decided
  pub record AreListed (o : O) : Type 0 where
    pub finds : List X
    pub are : AreFinds s a o finds
    pub told : (x : X) → Contains finds x → s.Holds x ⊎ s.IsOut x

  -- a front of what is found first is found first
  front_first : (o : O) (ys zs : List X) → AreFirst s a o (ys ++ zs) → AreFirst s a o ys
  front_first o ys zs h = record {
    ascending = pairs_in_front s.IsBefore ys zs h.ascending;
    are = λ x m. h.are x (Contains-left ys zs x m);
    first = λ x y m i r. elim (Contains-either ys zs y (h.first x y (Contains-left ys zs x m) i r)) [
      | inl n ↦ n
      | inr n ↦ absurd (orderly.never_both x y (AllPairs-across s.IsBefore ys zs h.ascending x y m n) r)
    ];
  }

  front_holds : (xs ys zs : List X) → xs ≡ ys ++ zs → EachHolds s xs → EachHolds s ys
  front_holds xs ys zs is hold = λ x m. hold x (subst (λ w. Contains w x) (sym is) (Contains-left ys zs x m))

  -- ---- the edges of parts

  -- each front of these begins the parts
  abbrev Fronts : (number : ℕ) → List O → Edges → Type 0
  Fronts number os es = (fs more : Edges) → es ≡ fs ++ more → BeginsParts s a number os fs

  fronts_behind : (n : ℕ) (o : O) (os : List O) (xs : List X) (rest : Edges) → AreFinds s a o xs → EachHolds s xs → Fronts (n + 1) os rest → Fronts n (o ∷ os) (map (s.edge n o) xs ++ rest)
  fronts_behind n o os xs rest all hold later fs more is = elim (cuts fs more (map (s.edge n o) xs) rest (sym is)) [
    | inl c ↦
        let r = mapped (s.edge n o) xs fs c.0 c.1 in
        inl (r.0, front_first o r.0 r.1 (subst (AreFirst s a o) r.2 (first_of_all s orderly a o xs all)), front_holds xs r.0 r.1 r.2 hold, r.3)
    | inr c ↦ inr (xs, c.0, all, hold, later c.0 more c.2, c.1)
  ]

  fronts_here : (n : ℕ) (o : O) (os : List O) (xs rest : List X) → AreFirst s a o (xs ++ rest) → EachHolds s xs → Fronts n (o ∷ os) (map (s.edge n o) xs)
  fronts_here n o os xs rest are hold fs more is =
      let r = mapped (s.edge n o) xs fs more is in
      let whole : xs ++ rest ≡ r.0 ++ (r.1 ++ rest) = ap (λ w. w ++ rest) r.2 ∙ append_assoc r.0 r.1 rest in
      inl (r.0, front_first o r.0 (r.1 ++ rest) (subst (AreFirst s a o) whole are), front_holds xs r.0 r.1 r.2 hold, r.3)

  -- ---- up to what can't be decided

  record IsCut (xs : List X) : Type 0 where
    pub front : List X
    pub find : X
    pub rest : List X
    pub split : xs ≡ front ++ find ∷ rest
    pub hold : EachHolds s front
    pub out : s.IsOut find

  none_hold : EachHolds s []
  none_hold x m = absurd (Contains-nil x m)

  one_more_holds : (x : X) (xs : List X) → s.Holds x → EachHolds s xs → EachHolds s (x ∷ xs)
  one_more_holds x xs h hold y m = elim (Contains-cases x xs y m) [ inl e ↦ subst s.Holds e h | inr n ↦ hold y n ]

  cut : (xs : List X) → ((x : X) → Contains xs x → s.Holds x ⊎ s.IsOut x) → EachHolds s xs ⊎ IsCut xs
  cut [] told = inl none_hold
  cut (x ∷ xs) told = by (told x (Contains-head x xs)) (cut xs (λ y m. told y (Contains-later x xs y m))) where
    by : s.Holds x ⊎ s.IsOut x → EachHolds s xs ⊎ IsCut xs → EachHolds s (x ∷ xs) ⊎ IsCut (x ∷ xs)
    by (inr out) later = inr (record { front = []; find = x; rest = xs; split = refl; hold = none_hold; out = out })
    by (inl h) (inl hold) = inl (one_more_holds x xs h hold)
    by (inl h) (inr c) = inr (record { front = x ∷ c.front; find = c.find; rest = c.rest; split = ap (λ w. x ∷ w) c.split; hold = one_more_holds x c.front h c.hold; out = c.out })

  abbrev IsWhole : (number : ℕ) → List O → Type 0
  IsWhole number os = (es : Edges) × HasParts s a number os es × Fronts number os es

  abbrev IsBroken : (number : ℕ) → List O → Type 0
  IsBroken number os = (es : Edges) × (at : List ℕ) × BreaksParts s a number os es at × Fronts number os es

  one_part : (n : ℕ) (o : O) (os : List O) → AreListed o → IsWhole (n + 1) os ⊎ IsBroken (n + 1) os → IsWhole n (o ∷ os) ⊎ IsBroken n (o ∷ os)
  one_part n o os l later = by (cut l.finds l.told) later where
    by : EachHolds s l.finds ⊎ IsCut l.finds → IsWhole (n + 1) os ⊎ IsBroken (n + 1) os → IsWhole n (o ∷ os) ⊎ IsBroken n (o ∷ os)
    by (inr c) later =
        let split : l.finds ≡ (c.front ++ c.find ∷ []) ++ c.rest = c.split ∙ sym (append_assoc c.front (c.find ∷ []) c.rest) in
        let are = front_first o (c.front ++ c.find ∷ []) c.rest (subst (AreFirst s a o) split (first_of_all s orderly a o l.finds l.are)) in
        inr (map (s.edge n o) c.front, s.stop o c.find, inl (c.front, c.find, are, c.hold, c.out, refl, refl), fronts_here n o os c.front (c.find ∷ []) are c.hold)
    by (inl hold) (inl w) = inl (map (s.edge n o) l.finds ++ w.0, (l.finds, w.0, l.are, hold, w.1, refl), fronts_behind n o os l.finds w.0 l.are hold w.2)
    by (inl hold) (inr b) = inr (map (s.edge n o) l.finds ++ b.0, b.1, inr (l.finds, b.0, l.are, hold, b.2, refl), fronts_behind n o os l.finds b.0 l.are hold b.3)

  parts : (n : ℕ) (os : List O) → ((o : O) → Contains os o → AreListed o) → IsWhole n os ⊎ IsBroken n os
  parts n [] each = inl ([], refl, λ fs more is. no_front fs more is)
  parts n (o ∷ os) each = one_part n o os (each o (Contains-head o os)) (parts (n + 1) os (λ p m. each p (Contains-later o os p m)))

  -- ---- the turn

  -- whether the node is a stray, or that it can't be decided
  abbrev pub IsStrayTold : Type 0
  IsStrayTold = ((b : Bool) × s.IsStray a b) ⊎ ((at : List ℕ) × s.IsDoubtful a at)

  abbrev IsTurn : Type 0
  IsTurn =
      ((t : Turn N L) × HasTurn s a t × Begins (explored_of s) a t)
      ⊎ ((t : Turn N L) × (at : List ℕ) × BreaksTurn s a t at × Begins (explored_of s) a t)

  stray_turn : (b : Bool) → s.IsStray a b → IsWhole 0 (s.parts a) ⊎ IsBroken 0 (s.parts a) → IsTurn
  stray_turn b stray (inl w) = inl (record { stray = b; edges = w.0 }, (stray, w.1), record { fronts = λ es e more is. (stray, w.2 (es ++ e ∷ []) more is) })
  stray_turn b stray (inr w) = inr (record { stray = b; edges = w.0 }, w.1, inr (stray, w.2), record { fronts = λ es e more is. (stray, w.3 (es ++ e ∷ []) more is) })

  no_last : (es : Edges) (e : Edge N L) → es ++ e ∷ [] ≡ [] → ⊥
  no_last [] e is = cc
  no_last (d ∷ es) e is = cc

  pub some_turn : IsStrayTold → ((o : O) → Contains (s.parts a) o → AreListed o) → IsTurn
  some_turn (inl told) each = stray_turn told.0 told.1 (parts 0 (s.parts a) each)
  some_turn (inr doubt) each = inr (no_turn, doubt.0, inl (refl, doubt.1), record { fronts = λ es e more is. absurd (no_last es e (no_front (es ++ e ∷ []) more is)) })

pub each_turn : {N L O X : Type 0} (s : Searched N L O X) (orderly : IsOrderly s) → ((a : N) → IsStrayTold s orderly a)
    → ((a : N) (o : O) → Contains (s.parts a) o → AreListed s orderly a o) → EachNodeHasTurn (explored_of s)
each_turn s orderly told each = λ a. some_turn s orderly a (told a) (each a)
