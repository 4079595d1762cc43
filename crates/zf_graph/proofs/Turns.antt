-- A node has one turn, or one place at which it breaks off, and its edges are those of its graph.
use Rattle.zf_graph.proofs.Prelude.{◌++◌, ◌+◌, ◌∙◌, ◌∷◌, ◌≡◌, ◌⊎◌, [], ap, ap₂, arith, inl, inr, List, map, refl, Some, subst, suc, sym, zero, ℕ, append-nil, append_assoc, map-append, Contains, slice_get, AreFirst, BeginsParts, BreaksParts, EachHolds, Edge, explored_of, graph_of, HasParts, IsFound, IsFrontTurn, IsOf, IsOrderly, IsSure, Searched, Turn, Contains-cases, Contains-either, Contains-head, Contains-later, Contains-left, Contains-nil, Contains-right}
use Rattle.zf_graph.proofs.Places.{none_some, one_some}
use Rattle.zf_graph.proofs.Finds.{all_or_out, before_out, first_in_all, IsFront, one_all, one_first}

-- ---- lists

front_map : {X Y : Type 0} (f : X → Y) (xs ys : List X) → IsFront xs ys → IsFront (map f xs) (map f ys)
front_map f xs ys (more, e) = (map f more, ap (map f) e ∙ map-append f xs more)

front_more : {Y : Type 0} (zs xs ys : List Y) → IsFront xs ys → IsFront (zs ++ xs) (zs ++ ys)
front_more zs xs ys (more, e) = (more, ap (λ w. zs ++ w) e ∙ sym (append_assoc zs xs more))

front_behind : {Y : Type 0} (xs ys more : List Y) → IsFront xs ys → IsFront xs (ys ++ more)
front_behind xs ys more (others, e) = (others ++ more, ap (λ w. w ++ more) e ∙ append_assoc xs others more)

module _ {N L O X : Type 0} (s : Searched N L O X) (orderly : IsOrderly s) (a : N) where
  abbrev Edges : Type 0
  Edges = List (Edge N L)

  -- what is found first, or what holds, beside what can't be decided
  first_or_out : (o : O) (xs ys : List X) (x : X) → AreFirst s a o xs → EachHolds s xs → AreFirst s a o (ys ++ x ∷ []) → s.IsOut x → IsFront xs ys
  first_or_out o xs ys x h hold k out = elim (one_first s orderly a o xs (ys ++ x ∷ []) h k) [
    | inl f ↦ shorter xs ys f.0 hold f.1
    | inr f ↦ absurd (orderly.told x (hold x (subst (λ w. Contains w x) (sym f.1) (Contains-left (ys ++ x ∷ []) f.0 x (Contains-right ys (x ∷ []) x (Contains-head x []))))) out)
  ] where
    head : X → List X → X
    head d [] = d
    head d (z ∷ zs) = z

    tail : List X → List X
    tail [] = []
    tail (z ∷ zs) = zs

    none : (xs more : List X) → [] ≡ xs ++ more → xs ≡ []
    none [] more e = refl
    none (w ∷ xs) more e = cc

    shorter : (xs ys more : List X) → EachHolds s xs → ys ++ x ∷ [] ≡ xs ++ more → IsFront xs ys
    shorter [] ys more hold e = (ys, refl)
    shorter (w ∷ xs) [] more hold e = absurd (orderly.told x (subst s.Holds (sym (ap (head x) e)) (hold w (Contains-head w xs))) out)
    shorter (w ∷ xs) (y ∷ ys) more hold e =
        let r = shorter xs ys more (λ v m. hold v (Contains-later w xs v m)) (ap tail e) in
        (r.0, ap₂ (λ v u. v ∷ u) (ap (head y) e) r.1)

  -- ---- one turn

  one_parts : (n : ℕ) (os : List O) (es fs : Edges) → HasParts s a n os es → HasParts s a n os fs → es ≡ fs
  one_parts n [] es fs h k = h ∙ sym k
  one_parts n (o ∷ os) es fs (xs, rest, all, hold, later, is) (ys, others, all', hold', later', is') =
      is ∙ ap₂ (λ us vs. map (s.edge n o) us ++ vs) (one_all s orderly a o xs ys all all') (one_parts (n + 1) os rest others later later') ∙ sym is'

  one_break : (n : ℕ) (os : List O) (es fs : Edges) (at by : List ℕ) → BreaksParts s a n os es at → BreaksParts s a n os fs by → (es ≡ fs) × (at ≡ by)
  one_break n [] es fs at by h k = absurd h
  one_break n (o ∷ os) es fs at by (inl (xs, x, first, hold, out, is, said)) (inl (ys, y, first', hold', out', is', said')) =
      let same : (xs ≡ ys) × (x ≡ y) = elim (one_first s orderly a o (xs ++ x ∷ []) (ys ++ y ∷ []) first first') [
        | inl f ↦ before_out s orderly a o xs ys x y hold' out f
        | inr f ↦ let r = before_out s orderly a o ys xs y x hold out' f in (sym r.0, sym r.1)
      ] in
      (is ∙ ap (map (s.edge n o)) same.0 ∙ sym is', said ∙ ap (s.stop o) same.1 ∙ sym said')
  one_break n (o ∷ os) es fs at by (inl (xs, x, first, hold, out, is, said)) (inr (ys, others, all, hold', later, is')) = absurd (all_or_out s orderly a o ys xs x all hold' first out)
  one_break n (o ∷ os) es fs at by (inr (xs, rest, all, hold, later, is)) (inl (ys, y, first, hold', out, is', said)) = absurd (all_or_out s orderly a o xs ys y all hold first out)
  one_break n (o ∷ os) es fs at by (inr (xs, rest, all, hold, later, is)) (inr (ys, others, all', hold', later', is')) =
      let same = one_break (n + 1) os rest others at by later later' in
      (is ∙ ap₂ (λ us vs. map (s.edge n o) us ++ vs) (one_all s orderly a o xs ys all all') same.0 ∙ sym is', same.1)

  not_both : (n : ℕ) (os : List O) (es fs : Edges) (at : List ℕ) → HasParts s a n os es → BreaksParts s a n os fs at → ⊥
  not_both n [] es fs at h k = k
  not_both n (o ∷ os) es fs at (xs, rest, all, hold, later, is) (inl (ys, y, first, hold', out, is', said)) = all_or_out s orderly a o xs ys y all hold first out
  not_both n (o ∷ os) es fs at (xs, rest, all, hold, later, is) (inr (ys, others, all', hold', later', is')) = not_both (n + 1) os rest others at later later'

  -- ---- beginnings

  -- the same first part, and more
  joined : (n : ℕ) (o : O) (xs ys : List X) (rest others es fs : Edges) → xs ≡ ys → IsFront rest others → es ≡ map (s.edge n o) xs ++ rest → fs ≡ map (s.edge n o) ys ++ others → IsFront es fs
  joined n o xs ys rest others es fs same f is is' =
      subst (λ u. IsFront u fs) (sym is) (subst (λ v. IsFront (map (s.edge n o) xs ++ rest) v) (sym (is' ∙ ap (λ w. map (s.edge n o) w ++ others) (sym same)))
      (front_more (map (s.edge n o) xs) rest others f))

  -- a front of the first part
  opened : (n : ℕ) (o : O) (xs ys : List X) (others es fs : Edges) → IsFront xs ys → es ≡ map (s.edge n o) xs → fs ≡ map (s.edge n o) ys ++ others → IsFront es fs
  opened n o xs ys others es fs f is is' =
      subst (λ u. IsFront u fs) (sym is) (subst (IsFront (map (s.edge n o) xs)) (sym is') (front_behind (map (s.edge n o) xs) (map (s.edge n o) ys) others (front_map (s.edge n o) xs ys f)))

  begins_whole : (n : ℕ) (os : List O) (es fs : Edges) → BeginsParts s a n os es → HasParts s a n os fs → IsFront es fs
  begins_whole n [] es fs h k = ([], k ∙ sym h ∙ sym (append-nil es))
  begins_whole n (o ∷ os) es fs (inl (xs, first, hold, is)) (ys, others, all, hold', later, is') = opened n o xs ys others es fs (first_in_all s orderly a o xs ys first all) is is'
  begins_whole n (o ∷ os) es fs (inr (xs, rest, all, hold, later, is)) (ys, others, all', hold', later', is') =
      joined n o xs ys rest others es fs (one_all s orderly a o xs ys all all') (begins_whole (n + 1) os rest others later later') is is'

  begins_broken : (n : ℕ) (os : List O) (es fs : Edges) (at : List ℕ) → BeginsParts s a n os es → BreaksParts s a n os fs at → IsFront es fs
  begins_broken n [] es fs at h k = absurd k
  begins_broken n (o ∷ os) es fs at (inl (xs, first, hold, is)) (inl (ys, y, first', hold', out, is', said)) =
      opened n o xs ys [] es fs (first_or_out o xs ys y first hold first' out) is (is' ∙ sym (append-nil (map (s.edge n o) ys)))
  begins_broken n (o ∷ os) es fs at (inl (xs, first, hold, is)) (inr (ys, others, all, hold', later, is')) = opened n o xs ys others es fs (first_in_all s orderly a o xs ys first all) is is'
  begins_broken n (o ∷ os) es fs at (inr (xs, rest, all, hold, later, is)) (inl (ys, y, first, hold', out, is', said)) = absurd (all_or_out s orderly a o xs ys y all hold first out)
  begins_broken n (o ∷ os) es fs at (inr (xs, rest, all, hold, later, is)) (inr (ys, others, all', hold', later', is')) =
      joined n o xs ys rest others es fs (one_all s orderly a o xs ys all all') (begins_broken (n + 1) os rest others at later later') is is'

  begins_both : (n : ℕ) (os : List O) (es fs : Edges) → BeginsParts s a n os es → BeginsParts s a n os fs → IsFront es fs ⊎ IsFront fs es
  begins_both n [] es fs h k = inl ([], k ∙ sym h ∙ sym (append-nil es))
  begins_both n (o ∷ os) es fs (inl (xs, first, hold, is)) (inl (ys, first', hold', is')) = elim (one_first s orderly a o xs ys first first') [
    | inl f ↦ inl (opened n o xs ys [] es fs f is (is' ∙ sym (append-nil (map (s.edge n o) ys))))
    | inr f ↦ inr (opened n o ys xs [] fs es f is' (is ∙ sym (append-nil (map (s.edge n o) xs))))
  ]
  begins_both n (o ∷ os) es fs (inl (xs, first, hold, is)) (inr (ys, others, all, hold', later, is')) = inl (opened n o xs ys others es fs (first_in_all s orderly a o xs ys first all) is is')
  begins_both n (o ∷ os) es fs (inr (xs, rest, all, hold, later, is)) (inl (ys, first, hold', is')) = inr (opened n o ys xs rest fs es (first_in_all s orderly a o ys xs first all) is' is)
  begins_both n (o ∷ os) es fs (inr (xs, rest, all, hold, later, is)) (inr (ys, others, all', hold', later', is')) = elim (begins_both (n + 1) os rest others later later') [
    | inl f ↦ inl (joined n o xs ys rest others es fs (one_all s orderly a o xs ys all all') f is is')
    | inr f ↦ inr (joined n o ys xs others rest fs es (one_all s orderly a o ys xs all' all) f is' is)
  ]

  -- ---- the edges are those that are found

  -- an edge that is found in these parts, the first of which has this number
  record IsIn (n : ℕ) (os : List O) (e : Edge N L) : Type 0 where
    pub place : ℕ
    pub part : O
    pub find : X
    pub stands : slice_get os place ≡ Some part
    pub has : s.Has a part find
    pub holds : s.Holds find
    pub is : s.edge (n + place) part find ≡ e

  later_in : (n : ℕ) (o : O) (os : List O) (e : Edge N L) → IsIn (n + 1) os e → IsIn n (o ∷ os) e
  later_in n o os e h = record {
    place = suc h.place;
    part = h.part;
    find = h.find;
    stands = h.stands;
    has = h.has;
    holds = h.holds;
    is = let same : n + suc h.place ≡ n + 1 + h.place = omega arith in ap (λ m. s.edge m h.part h.find) same ∙ h.is;
  }

  map_in : {X Y : Type 0} (f : X → Y) (xs : List X) (y : Y) → Contains (map f xs) y → (x : X) × Contains xs x × (f x ≡ y)
  map_in f [] y m = absurd (Contains-nil y m)
  map_in f (x ∷ xs) y m = elim (Contains-cases (f x) (map f xs) y m) [
    | inl e ↦ (x, Contains-head x xs, e)
    | inr n ↦ let r = map_in f xs y n in (r.0, Contains-later x xs r.0 r.1, r.2)
  ]

  in_map : {X Y : Type 0} (f : X → Y) (xs : List X) (x : X) → Contains xs x → Contains (map f xs) (f x)
  in_map f [] x m = absurd (Contains-nil x m)
  in_map f (z ∷ xs) x m = elim (Contains-cases z xs x m) [
    | inl e ↦ subst (λ w. Contains (f z ∷ map f xs) (f w)) e (Contains-head (f z) (map f xs))
    | inr n ↦ Contains-later (f z) (map f xs) (f x) (in_map f xs x n)
  ]

  here_in : (n : ℕ) (o : O) (os : List O) (xs : List X) (e : Edge N L) → ((x : X) → Contains xs x → s.Has a o x) → EachHolds s xs → Contains (map (s.edge n o) xs) e → IsIn n (o ∷ os) e
  here_in n o os xs e are hold m = let r = map_in (s.edge n o) xs e m in record {
    place = zero;
    part = o;
    find = r.0;
    stands = refl;
    has = are r.0 r.1;
    holds = hold r.0 r.1;
    is = let same : n + 0 ≡ n = omega arith in ap (λ m. s.edge m o r.0) same ∙ r.2;
  }

  parts_in : (n : ℕ) (os : List O) (es : Edges) (e : Edge N L) → HasParts s a n os es → Contains es e → IsIn n os e
  parts_in n [] es e h m = absurd (Contains-nil e (subst (λ w. Contains w e) h m))
  parts_in n (o ∷ os) es e (xs, rest, all, hold, later, is) m = elim (Contains-either (map (s.edge n o) xs) rest e (subst (λ w. Contains w e) is m)) [
    | inl k ↦ here_in n o os xs e (λ x i. (all.members x).0 i) hold k
    | inr k ↦ later_in n o os e (parts_in (n + 1) os rest e later k)
  ]

  begun_in : (n : ℕ) (os : List O) (es : Edges) (e : Edge N L) → BeginsParts s a n os es → Contains es e → IsIn n os e
  begun_in n [] es e h m = absurd (Contains-nil e (subst (λ w. Contains w e) h m))
  begun_in n (o ∷ os) es e (inl (xs, first, hold, is)) m = here_in n o os xs e first.are hold (subst (λ w. Contains w e) is m)
  begun_in n (o ∷ os) es e (inr (xs, rest, all, hold, later, is)) m = elim (Contains-either (map (s.edge n o) xs) rest e (subst (λ w. Contains w e) is m)) [
    | inl k ↦ here_in n o os xs e (λ x i. (all.members x).0 i) hold k
    | inr k ↦ later_in n o os e (begun_in (n + 1) os rest e later k)
  ]

  in_parts : (n : ℕ) (os : List O) (es : Edges) (place : ℕ) (o : O) (x : X) → HasParts s a n os es → slice_get os place ≡ Some o → s.Has a o x → Contains es (s.edge (n + place) o x)
  in_parts n [] es place o x h at has = absurd (none_some o at)
  in_parts n (p ∷ os) es zero o x (xs, rest, all, hold, later, is) at has =
      let same : p ≡ o = one_some p o at in
      let m : Contains xs x = (all.members x).1 (subst (λ q. s.Has a q x) (sym same) has) in
      let number : n + 0 ≡ n = omega arith in
      let there : Contains es (s.edge n p x) = subst (λ w. Contains w (s.edge n p x)) (sym is) (Contains-left (map (s.edge n p) xs) rest (s.edge n p x) (in_map (s.edge n p) xs x m)) in
      subst (λ q. Contains es (s.edge (n + 0) q x)) same (subst (λ k. Contains es (s.edge k p x)) (sym number) there)
  in_parts n (p ∷ os) es (suc place) o x (xs, rest, all, hold, later, is) at has =
      let number : n + suc place ≡ n + 1 + place = omega arith in
      subst (λ k. Contains es (s.edge k o x)) (sym number) (subst (λ w. Contains w (s.edge (n + 1 + place) o x)) (sym is) (
      Contains-right (map (s.edge n p) xs) rest (s.edge (n + 1 + place) o x) (in_parts (n + 1) os rest place o x later at has)
      ))

  found : (e : Edge N L) → IsIn 0 (s.parts a) e → IsFound s a e
  found e h = record {
    number = h.place;
    part = h.part;
    find = h.find;
    stands = h.stands;
    has = h.has;
    holds = h.holds;
    is = let same : 0 + h.place
        ≡ h.place = omega arith in sym (ap (λ m. s.edge m h.part h.find) same) ∙ h.is;
  }

module _ {N L O X : Type 0} (s : Searched N L O X) (orderly : IsOrderly s) where
  pub of_graph : IsOf (explored_of s) (graph_of s)
  of_graph = record {
    root = refl;
    sound = orderly.sound;
    itself = orderly.itself;
    edges = λ a t h e. (
      (λ m. found s orderly a e (parts_in s orderly a 0 (s.parts a) t.edges e h.1 m)),
      (λ f. let same : 0 + f.number ≡ f.number = omega arith in
          subst (Contains t.edges) (ap (λ m. s.edge m f.part f.find) same ∙ f.is) (in_parts s orderly a 0 (s.parts a) t.edges f.number f.part f.find h.1 f.stands f.has)),
    );
    some_edges = λ a t h e m. found s orderly a e (begun_in s orderly a 0 (s.parts a) t.edges e h.1 m);
  }

  same_turn : (t u : Turn N L) → t.stray ≡ u.stray → t.edges ≡ u.edges → t ≡ u
  same_turn t u e f = ap₂ (λ b es. record { stray = b; edges = es }) e f

  pub sure : IsSure (explored_of s)
  sure = record {
    one_turn = λ a t u h k. same_turn t u (orderly.one_stray a t.stray u.stray h.0 k.0) (one_parts s orderly a 0 (s.parts a) t.edges u.edges h.1 k.1);
    one_break = one_break_of;
    not_both = not_both_of;
    begins_whole = λ a t u h k. let f = begins_whole s orderly a 0 (s.parts a) t.edges u.edges h.1 k.1 in
        record { stray = orderly.one_stray a t.stray u.stray h.0 k.0; more = f.0; edges = f.1 };
    begins_broken = begins_broken_of;
    begins_both = λ a t u h k. elim (begins_both s orderly a 0 (s.parts a) t.edges u.edges h.1 k.1) [
      | inl f ↦ inl (record { stray = orderly.one_stray a t.stray u.stray h.0 k.0; more = f.0; edges = f.1 })
      | inr f ↦ inr (record { stray = orderly.one_stray a u.stray t.stray k.0 h.0; more = f.0; edges = f.1 })
    ];
  } where
    one_break_of : (a : N) (t u : Turn N L) (x y : List ℕ) → (explored_of s).BreaksTurn a t x → (explored_of s).BreaksTurn a u y → (t ≡ u) × (x ≡ y)
    one_break_of a t u x y (inl (h, d)) (inl (k, c)) = (h ∙ sym k, orderly.one_doubt a x y d c)
    one_break_of a t u x y (inl (h, d)) (inr (k, c)) = absurd (orderly.no_doubt a u.stray x k d)
    one_break_of a t u x y (inr (h, d)) (inl (k, c)) = absurd (orderly.no_doubt a t.stray y h c)
    one_break_of a t u x y (inr (h, d)) (inr (k, c)) = let r = one_break s orderly a 0 (s.parts a) t.edges u.edges x y d c in
        (same_turn t u (orderly.one_stray a t.stray u.stray h k) r.0, r.1)

    not_both_of : (a : N) (t u : Turn N L) (x : List ℕ) → (explored_of s).HasTurn a t → (explored_of s).BreaksTurn a u x → ⊥
    not_both_of a t u x h (inl (k, d)) = orderly.no_doubt a t.stray x h.0 d
    not_both_of a t u x h (inr (k, d)) = not_both s orderly a 0 (s.parts a) t.edges u.edges x h.1 d

    begins_broken_of : (a : N) (t u : Turn N L) (x : List ℕ) → (explored_of s).BeginsTurn a t → (explored_of s).BreaksTurn a u x → IsFrontTurn t u
    begins_broken_of a t u x h (inl (k, d)) = absurd (orderly.no_doubt a t.stray x h.0 d)
    begins_broken_of a t u x h (inr (k, d)) = let f = begins_broken s orderly a 0 (s.parts a) t.edges u.edges x h.1 d in
        record { stray = orderly.one_stray a t.stray u.stray h.0 k; more = f.0; edges = f.1 }
