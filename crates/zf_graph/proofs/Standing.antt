-- Where an exploration stands: in the turn of the node at a place, some edges of which are passed.
use Rattle.std.proofs.lemmas.List.Elements.{Contains-push_cases}
use Rattle.zf_graph.proofs.Prelude.{◌++◌, ◌+◌, ◌<◌, ◌∙◌, ◌∷◌, ◌≡◌, ◌≤◌, ◌⊎◌, [], ap, arith, Bool, false, inl, inr, length, length-append, List, refl, Some, subst, suc, sym, true, zero, ℕ, cases_Bool, cases_lt, false≢true, append_assoc, append-nil, Contains, slice_get, slice_get_within, Edge, Graph, Follows, end_of, IsWay, Turn, Met, Explored, at_first, IsMet, is_met, beyond, arrive, arrive_all, Explores, IsOf, cond-true, cond-false, or_cases, or_left, or_right}
use Rattle.zf_graph.proofs.Growing.{at-arrive, at-arrive_all}
use Rattle.zf_graph.proofs.Places.{at_last, at_left, at_push, one_at, none_some, one_some, place_in, in_place}

module _ {N L : Type 0} where
  -- what is met along a way that is no longer than this
  pub record IsMetWithin (met : List (Met N L)) (b : N) (n : ℕ) : Type 0 where
    pub is_met : IsMet met b
    pub within : length is_met.item.way ≤ n

  pub IsMet-left : (met more : List (Met N L)) (b : N) → IsMet met b → IsMet (met ++ more) b
  IsMet-left met more b m = record { place = m.place; item = m.item; stands = at_left met more m.place m.item m.stands; node = m.node }

  pub IsMetWithin-left : (met more : List (Met N L)) (b : N) (n : ℕ) → IsMetWithin met b n → IsMetWithin (met ++ more) b n
  unfolding IsMet-left
  IsMetWithin-left met more b n m = record { is_met = IsMet-left met more b m.is_met; within = m.within }

  IsMet-behind : (x : Met N L) (met : List (Met N L)) (b : N) → IsMet met b → IsMet (x ∷ met) b
  IsMet-behind x met b m = record { place = suc m.place; item = m.item; stands = m.stands; node = m.node }

  module _ (eq : N → N → Bool) (sound : (a b : N) → eq a b ≡ true → a ≡ b) (itself : (a : N) → eq a a ≡ true) where
    -- what the test finds is met
    is_met-true-go : (x : Met N L) (met : List (Met N L)) (b : N) → (is_met eq met b ≡ true → IsMet met b) → (eq b x.node ≡ true) ⊎ (is_met eq met b ≡ true) → IsMet (x ∷ met) b
    is_met-true-go x met b rest (inl same) = record { place = 0; item = x; stands = refl; node = sym (sound b x.node same) }
    is_met-true-go x met b rest (inr known) = IsMet-behind x met b (rest known)

    pub is_met-true : (met : List (Met N L)) (b : N) → is_met eq met b ≡ true → IsMet met b
    is_met-true [] b h = absurd (false≢true h)
    is_met-true (x ∷ met) b h = is_met-true-go x met b (is_met-true met b) (or_cases (eq b x.node) (is_met eq met b) h)

    -- what is met is found
    pub is_met-at : (met : List (Met N L)) (b : N) (i : ℕ) (x : Met N L) → slice_get met i ≡ Some x → x.node ≡ b → is_met eq met b ≡ true
    is_met-at [] b i x p q = absurd (none_some x p)
    is_met-at (y ∷ met) b zero x p q = or_left (eq b y.node) (is_met eq met b) (subst (λ z. eq b z.node ≡ true) (sym (one_some y x p)) (subst (λ c. eq c x.node ≡ true) q (itself x.node)))
    is_met-at (y ∷ met) b (suc i) x p q = or_right (eq b y.node) (is_met eq met b) (is_met-at met b i x p q)

    -- what it does not find is not met
    pub is_met-false : (met : List (Met N L)) (b : N) → is_met eq met b ≡ false → (i : ℕ) (x : Met N L) → slice_get met i ≡ Some x → x.node ≡ b → ⊥
    is_met-false met b h i x p q = false≢true (sym h ∙ is_met-at met b i x p q)

  -- ways
  Follows-push : (g : Graph N L) (a : N) (es : List (Edge N L)) (e : Edge N L) → Follows g a es → g.IsEdge (end_of a es) e → Follows g a (es ++ e ∷ [])
  Follows-push g a [] e f h = (h, tt)
  Follows-push g a (d ∷ es) e f h = (f.0, Follows-push g d.to es e f.1 h)

  end_of-push : (a : N) (es : List (Edge N L)) (e : Edge N L) → end_of a (es ++ e ∷ []) ≡ e.to
  end_of-push a [] e = refl
  end_of-push a (d ∷ es) e = end_of-push d.to es e

  pub IsWay-beyond : (g : Graph N L) (a : Met N L) (e : Edge N L) → IsWay g a.way a.node → g.IsEdge a.node e → IsWay g (a.way ++ e ∷ []) e.to
  IsWay-beyond g a e w h = record { follows = Follows-push g g.root a.way e w.follows (subst (λ n. g.IsEdge n e) (sym w.ends) h); ends = end_of-push g.root a.way e }

  pub length-beyond : (a : Met N L) (e : Edge N L) → length (beyond a e).way ≡ length a.way + 1
  length-beyond a e = length-append a.way (e ∷ [])

  module _ (g : Graph N L) where
    -- so many are met, it is the turn of the node at the place, and these of its edges are passed
    pub record Stands (met : List (Met N L)) (place : ℕ) (passed : List (Edge N L)) : Type 0 where
      pub first : slice_get met 0 ≡ Some (record { node = g.root; way = [] })
      pub ways : (i : ℕ) (x : Met N L) → slice_get met i ≡ Some x → IsWay g x.way x.node
      pub apart : (i j : ℕ) (x y : Met N L) → slice_get met i ≡ Some x → slice_get met j ≡ Some y → x.node ≡ y.node → i ≡ j
      pub rising : (i j : ℕ) (x y : Met N L) → slice_get met i ≡ Some x → slice_get met j ≡ Some y → i ≤ j → length x.way ≤ length y.way
      pub near : (j : ℕ) (x y : Met N L) → slice_get met place ≡ Some x → slice_get met j ≡ Some y → length y.way ≤ length x.way + 1
      pub closed : (i : ℕ) (x : Met N L) (e : Edge N L) → i < place → slice_get met i ≡ Some x → g.IsEdge x.node e → IsMetWithin met e.to (length x.way + 1)
      pub gone : (x : Met N L) (e : Edge N L) → slice_get met place ≡ Some x → Contains passed e → IsMetWithin met e.to (length x.way + 1)

    pub Stands-first : Stands (at_first g.root) 0 []
    Stands-first = record { first = refl; ways = ways; apart = apart; rising = rising; near = near; closed = λ i x e h. absurd (omega (arith, h)); gone = λ x e p c. absurd (omega (arith, c.1)) }
      where
        start : Met N L
        start = record { node = g.root; way = [] }

        only : (i : ℕ) (x : Met N L) → slice_get (start ∷ []) i ≡ Some x → (i ≡ 0) × (start ≡ x)
        only zero x p = (refl, one_some start x p)
        only (suc i) x p = absurd (none_some x p)

        ways : (i : ℕ) (x : Met N L) → slice_get (start ∷ []) i ≡ Some x → IsWay g x.way x.node
        ways i x p = subst (λ z. IsWay g z.way z.node) (only i x p).1 (record { follows = tt; ends = refl })

        apart : (i j : ℕ) (x y : Met N L) → slice_get (start ∷ []) i ≡ Some x → slice_get (start ∷ []) j ≡ Some y → x.node ≡ y.node → i ≡ j
        apart i j x y p q h = (only i x p).0 ∙ sym (only j y q).0

        short : (j : ℕ) (y : Met N L) → slice_get (start ∷ []) j ≡ Some y → length y.way ≡ 0
        short j y q = ap (λ z. length z.way) (sym (only j y q).1)

        rising : (i j : ℕ) (x y : Met N L) → slice_get (start ∷ []) i ≡ Some x → slice_get (start ∷ []) j ≡ Some y → i ≤ j → length x.way ≤ length y.way
        rising i j x y p q h = let l = short i x p in omega (arith, l)

        near : (j : ℕ) (x y : Met N L) → slice_get (start ∷ []) 0 ≡ Some x → slice_get (start ∷ []) j ≡ Some y → length y.way ≤ length x.way + 1
        near j x y p q = let l = short j y q in omega (arith, l)

    module _ (met : List (Met N L)) (place : ℕ) (passed : List (Edge N L)) (s : Stands met place passed) (a : Met N L) (turn : slice_get met place ≡ Some a) (e : Edge N L) where
      -- an edge to a node that is met already
      pub Stands-known : IsMet met e.to → Stands met place (passed ++ e ∷ [])
      Stands-known m = record { first = s.first; ways = s.ways; apart = s.apart; rising = s.rising; near = s.near; closed = s.closed; gone = gone }
        where
          gone : (x : Met N L) (d : Edge N L) → slice_get met place ≡ Some x → Contains (passed ++ e ∷ []) d → IsMetWithin met d.to (length x.way + 1)
          gone x d p c = elim (Contains-push_cases passed e d c) [
            | inl old ↦ s.gone x d p old
            | inr new ↦ subst (λ z. IsMetWithin met z.to (length x.way + 1)) new (record { is_met = m; within = s.near m.place x m.item p m.stands })
          ]

      -- an edge to a new node
      pub Stands-new : g.IsEdge a.node e → ((i : ℕ) (x : Met N L) → slice_get met i ≡ Some x → x.node ≡ e.to → ⊥) → Stands (met ++ beyond a e ∷ []) place (passed ++ e ∷ [])
      Stands-new edge fresh = record { first = at_left met (beyond a e ∷ []) 0 _ s.first; ways = ways; apart = apart; rising = rising; near = near; closed = closed; gone = gone }
        where
          within : place < length met
          within = slice_get_within met place a turn

          case : (i : ℕ) (x : Met N L) → slice_get (met ++ beyond a e ∷ []) i ≡ Some x → (slice_get met i ≡ Some x) ⊎ ((i ≡ length met) × (x ≡ beyond a e))
          case i x p = at_push met (beyond a e) i x p

          old_at : (i : ℕ) (x : Met N L) → i ≤ place → slice_get (met ++ beyond a e ∷ []) i ≡ Some x → slice_get met i ≡ Some x
          old_at i x le p = elim (case i x p) [ inl q ↦ q | inr q ↦ absurd (omega (arith, within, le, q.0)) ]

          long : (x : Met N L) → x ≡ beyond a e → length x.way ≡ length a.way + 1
          long x q = ap (λ z. length z.way) q ∙ length-beyond a e

          ways : (i : ℕ) (x : Met N L) → slice_get (met ++ beyond a e ∷ []) i ≡ Some x → IsWay g x.way x.node
          ways i x p = elim (case i x p) [
            | inl q ↦ s.ways i x q
            | inr q ↦ subst (λ z. IsWay g z.way z.node) (sym q.1) (IsWay-beyond g a e (s.ways place a turn) edge)
          ]

          apart : (i j : ℕ) (x y : Met N L) → slice_get (met ++ beyond a e ∷ []) i ≡ Some x → slice_get (met ++ beyond a e ∷ []) j ≡ Some y → x.node ≡ y.node → i ≡ j
          apart i j x y p q same = elim (case i x p) [
            | inl left ↦ elim (case j y q) [
              | inl right ↦ s.apart i j x y left right same
              | inr right ↦ absurd (fresh i x left (same ∙ ap (λ z. z.node) right.1))
            ]
            | inr left ↦ elim (case j y q) [
              | inl right ↦ absurd (fresh j y right (sym same ∙ ap (λ z. z.node) left.1))
              | inr right ↦ left.0 ∙ sym right.0
            ]
          ]

          near : (j : ℕ) (x y : Met N L) → slice_get (met ++ beyond a e ∷ []) place ≡ Some x → slice_get (met ++ beyond a e ∷ []) j ≡ Some y → length y.way ≤ length x.way + 1
          near j x y p q = subst (λ z. length y.way ≤ length z.way + 1) (one_at met place a x turn (old_at place x (omega arith) p)) (elim (case j y q) [
            | inl right ↦ s.near j a y turn right
            | inr right ↦ let l = long y right.1 in omega (arith, l)
          ])

          rising : (i j : ℕ) (x y : Met N L) → slice_get (met ++ beyond a e ∷ []) i ≡ Some x → slice_get (met ++ beyond a e ∷ []) j ≡ Some y → i ≤ j → length x.way ≤ length y.way
          rising i j x y p q le = elim (case i x p) [
            | inl left ↦ elim (case j y q) [
              | inl right ↦ s.rising i j x y left right le
              | inr right ↦ let l = long y right.1 in let n = s.near i a x turn left in omega (arith, l, n)
            ]
            | inr left ↦ elim (case j y q) [
              | inl right ↦ let w = slice_get_within met j y right in absurd (omega (arith, w, le, left.0))
              | inr right ↦ let l = long x left.1 in let k = long y right.1 in omega (arith, l, k)
            ]
          ]

          closed : (i : ℕ) (x : Met N L) (d : Edge N L) → i < place → slice_get (met ++ beyond a e ∷ []) i ≡ Some x → g.IsEdge x.node d → IsMetWithin (met ++ beyond a e ∷ []) d.to (length x.way + 1)
          closed i x d lt p h = IsMetWithin-left met (beyond a e ∷ []) d.to (length x.way + 1) (s.closed i x d lt (old_at i x (omega (arith, lt)) p) h)

          this : (x : Met N L) → x ≡ a → IsMetWithin (met ++ beyond a e ∷ []) e.to (length x.way + 1)
          this x same = record {
            is_met = record { place = length met; item = beyond a e; stands = at_last met (beyond a e); node = refl };
            within
                = (let l = length-beyond a e in let m = ap (λ z. length z.way) same in omega (arith, l, m));
          }

          gone : (x : Met N L) (d : Edge N L) → slice_get (met ++ beyond a e ∷ []) place ≡ Some x → Contains (passed ++ e ∷ []) d → IsMetWithin (met ++ beyond a e ∷ []) d.to (length x.way + 1)
          gone x d p c = elim (Contains-push_cases passed e d c) [
            | inl old ↦ IsMetWithin-left met (beyond a e ∷ []) d.to (length x.way + 1) (s.gone x d (old_at place x (omega arith) p) old)
            | inr new ↦ subst (λ z. IsMetWithin (met ++ beyond a e ∷ []) z.to (length x.way + 1)) new (this x (sym (one_at met place a x turn (old_at place x (omega arith) p))))
          ]

    -- the end of a turn, all of whose edges are passed
    pub Stands-next : (met : List (Met N L)) (place : ℕ) (passed : List (Edge N L)) (a : Met N L) → Stands met place passed → slice_get met place ≡ Some a
        → ((e : Edge N L) → g.IsEdge a.node e → Contains passed e) → Stands met (place + 1) []
    Stands-next met place passed a s turn all = record {
      first = s.first;
      ways = s.ways;
      apart = s.apart;
      rising = s.rising;
      near = near;
      closed = closed;
      gone
          = λ x e p c. absurd (omega (arith, c.1));
    }
      where
        near : (j : ℕ) (x y : Met N L) → slice_get met (place + 1) ≡ Some x → slice_get met j ≡ Some y → length y.way ≤ length x.way + 1
        near j x y p q = let l = s.near j a y turn q in let r = s.rising place (place + 1) a x turn p (omega arith) in omega (arith, l, r)

        here : (i : ℕ) (x : Met N L) (e : Edge N L) → i ≡ place → slice_get met i ≡ Some x → g.IsEdge x.node e → IsMetWithin met e.to (length x.way + 1)
        here i x e same p h =
            let q = subst (λ k. slice_get met k ≡ Some x) same p in
            s.gone x e q (all e (subst (λ z. g.IsEdge z.node e) (one_at met place x a q turn) h))

        closed : (i : ℕ) (x : Met N L) (e : Edge N L) → i < place + 1 → slice_get met i ≡ Some x → g.IsEdge x.node e → IsMetWithin met e.to (length x.way + 1)
        closed i x e lt p h = elim (cases_lt i place) [ inl less ↦ s.closed i x e less p h | inr ge ↦ here i x e (omega (arith, lt, ge)) p h ]

    module _ (eq : N → N → Bool) (sound : (a b : N) → eq a b ≡ true → a ≡ b) (itself : (a : N) → eq a a ≡ true) where
      -- one edge
      pub Stands-arrive : (met : List (Met N L)) (place : ℕ) (passed : List (Edge N L)) (a : Met N L) (e : Edge N L) → Stands met place passed → slice_get met place ≡ Some a
          → g.IsEdge a.node e → Stands (arrive eq a met e) place (passed ++ e ∷ [])
      Stands-arrive met place passed a e s turn edge = go (cases_Bool (is_met eq met e.to))
        where
          go : (is_met eq met e.to ≡ true) ⊎ (is_met eq met e.to ≡ false) → Stands (arrive eq a met e) place (passed ++ e ∷ [])
          go (inl known) = subst (λ m. Stands m place (passed ++ e ∷ [])) (sym (cond-true (is_met eq met e.to) met (met ++ beyond a e ∷ []) known))
              (Stands-known met place passed s a turn e (is_met-true eq sound itself met e.to known))
          go (inr fresh) = subst (λ m. Stands m place (passed ++ e ∷ [])) (sym (cond-false (is_met eq met e.to) met (met ++ beyond a e ∷ []) fresh))
              (Stands-new met place passed s a turn e edge (is_met-false eq sound itself met e.to fresh))

    module _ (eq : N → N → Bool) (sound : (a b : N) → eq a b ≡ true → a ≡ b) (itself : (a : N) → eq a a ≡ true) where
      -- some edges
      pub Stands-arrive_all : (a : Met N L) (met : List (Met N L)) (place : ℕ) (passed es : List (Edge N L)) → Stands met place passed → slice_get met place ≡ Some a
          → ((e : Edge N L) → Contains es e → g.IsEdge a.node e) → Stands (arrive_all eq a met es) place (passed ++ es)
      Stands-arrive_all a met place passed [] s turn edges = subst (Stands met place) (sym (append-nil passed)) s
      Stands-arrive_all a met place passed (e ∷ es) s turn edges =
          subst (Stands (arrive_all eq a (arrive eq a met e) es) place) (append_assoc passed (e ∷ []) es)
          (Stands-arrive_all a (arrive eq a met e) place (passed ++ e ∷ []) es
          (Stands-arrive eq sound itself met place passed a e s turn (edges e (in_place (e ∷ es) 0 e refl))) (at-arrive eq met a e place a turn)
          (λ d c. edges d (let p = place_in es d c in in_place (e ∷ es) (suc p.0) d p.1)))

    module _ (p : Explored N L) where
      module _ (of : IsOf p g) where
        -- a turn
        pub Stands-turn : (met : List (Met N L)) (place : ℕ) (a : Met N L) (t : Turn N L) → Stands met place [] → slice_get met place ≡ Some a
            → p.HasTurn a.node t → Stands (arrive_all p.eq a met t.edges) (place + 1) []
        Stands-turn met place a t s turn h =
            Stands-next (arrive_all p.eq a met t.edges) place t.edges a (Stands-arrive_all p.eq of.sound of.itself a met place [] t.edges s turn
            (λ e c. (of.edges a.node t h e).0 c)) (at-arrive_all p.eq a met t.edges place a turn) (λ e c. (of.edges a.node t h e).1 c)

        -- turns
        pub Stands-Explores : (met : List (Met N L)) (place : ℕ) (ts : List (Turn N L)) (after : List (Met N L)) → Stands met place []
            → Explores p met place ts after → Stands after (place + length ts) []
        Stands-Explores met place [] after s h = subst (λ m. Stands m (place + 0) []) (sym h) (subst (λ k. Stands met k []) (omega arith) s)
        Stands-Explores met place (t ∷ ts) after s h =
            subst (λ k. Stands after k []) (omega arith) (Stands-Explores (arrive_all p.eq h.0 met t.edges) (place + 1) ts after (Stands-turn met place h.0 t s h.1 h.2) h.3)

        -- from the root
        pub Stands-from_root : (ts : List (Turn N L)) (after : List (Met N L)) → Explores p (at_first p.root) 0 ts after → Stands after (0 + length ts) []
        Stands-from_root ts after h = Stands-Explores (at_first p.root) 0 ts after (subst (λ r. Stands (at_first r) 0 []) (sym of.root) Stands-first) h
