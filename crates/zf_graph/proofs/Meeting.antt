-- What an exploration meets, and along which ways.
use Rattle.zf_graph.proofs.Prelude.{arrive_all, Edge, Explored, Explores, ExploresAll, Follows, Graph, IsMet, IsOf, IsReachable, IsWay, List, Met, Some, Turn, [], along, arith, at_first, at_root, beyond, cases_lt, end_of, inl, inr, length, refl, slice_get, slice_get_within, subst, suc, sym, with_edge, zero, ℕ, ◌++◌, ◌+◌, ◌<◌, ◌∙◌, ◌∷◌, ◌≡◌, ◌≤◌, FindsShortest, HasEachStep, MeetsOnce, MeetsReachable, MeetsShortly}
use Rattle.zf_graph.proofs.Places.{at_last, in_place, none_some, one_at, one_some}
use Rattle.zf_graph.proofs.Standing.{IsMetWithin, IsWay-beyond, length-beyond, Stands, Stands-from_root}
use Rattle.zf_graph.proofs.Growing.{at-arrive_all, at-Explores}

-- the turn at a place is that of the node at the place
turn_at : {N L : Type 0} (p : Explored N L) (met : List (Met N L)) (place : ℕ) (ts : List (Turn N L)) (after : List (Met N L)) → Explores p met place ts after
    → (i : ℕ) (t : Turn N L) → slice_get ts i ≡ Some t → (a : Met N L) × (slice_get after (place + i) ≡ Some a) × p.HasTurn a.node t
turn_at p met place [] after h i t turn = absurd (none_some t turn)
turn_at p met place (u ∷ ts) after h zero t turn =
    let kept = at-Explores p (arrive_all p.eq h.0 met u.edges) (place + 1) ts after h.3 place h.0 (at-arrive_all p.eq h.0 met u.edges place h.0 h.1) in
    (h.0, subst (λ k. slice_get after k ≡ Some h.0) (omega arith) kept, subst (λ x. p.HasTurn h.0.node x) (one_some u t turn) h.2)
turn_at p met place (u ∷ ts) after h (suc i) t turn =
    let r = turn_at p (arrive_all p.eq h.0 met u.edges) (place + 1) ts after h.3 i t turn in
    (r.0, subst (λ k. slice_get after k ≡ Some r.0) (omega arith) r.1, r.2)

module _ {N L : Type 0} (g : Graph N L) where
  -- what ways lead to is reachable
  IsReachable-follows : (a : N) (es : List (Edge N L)) → IsReachable g a → Follows g a es → IsReachable g (end_of a es)
  IsReachable-follows a [] r f = r
  IsReachable-follows a (e ∷ es) r f = IsReachable-follows e.to es (along a e e.to r f.0 refl) f.1

  pub IsReachable-way : (x : Met N L) → IsWay g x.way x.node → IsReachable g x.node
  IsReachable-way x w = subst (IsReachable g) w.ends (IsReachable-follows g.root x.way (at_root g.root refl) w.follows)

  module _ (met : List (Met N L)) (place : ℕ) (passed : List (Edge N L)) (s : Stands g met place passed) where
    -- the root is met
    pub IsMet-root : IsMet met g.root
    IsMet-root = record { place = 0; item = record { node = g.root; way = [] }; stands = s.first; node = refl }

    -- where all that are met have had their turn, what is reachable is met
    pub IsMet-reachable : length met ≤ place → (b : N) → IsReachable g b → IsMet met b
    IsMet-reachable all b (at_root _ same) = subst (IsMet met) (sym same) IsMet-root
    IsMet-reachable all b (along a e _ r edge same) = subst (IsMet met) (sym same) (go (IsMet-reachable all a r))
      where
        go : IsMet met a → IsMet met e.to
        go m = (s.closed m.place m.item e (let w = slice_get_within met m.place m.item m.stands in omega (arith, w, all)) m.stands (subst (λ n. g.IsEdge n e) (sym m.node) edge)).is_met

    -- from a node that is met, up to the way's length of the node whose turn it is, all edges lead to what is met along no longer ways
    level : (low : ℕ) → ((i : ℕ) (x : Met N L) → slice_get met i ≡ Some x → length x.way < low → i < place) → (es : List (Edge N L)) (i : ℕ) (x : Met N L) → slice_get met i ≡ Some x
        → Follows g x.node es → length x.way + length es ≤ low → IsMetWithin met (end_of x.node es) (length x.way + length es)
    level low had [] i x p f le = record { is_met = record { place = i; item = x; stands = p; node = refl }; within = omega arith }
    level low had (e ∷ es) i x p f le =
        let m = s.closed i x e (had i x p (omega (arith, le))) p f.0 in
        let y = m.is_met.item in
        let r = level low had es m.is_met.place y m.is_met.stands (subst (λ n. Follows g n es) (sym m.is_met.node) f.1) (omega (arith, le, m.within)) in
        subst (λ n. IsMetWithin met (end_of n es) (length x.way + suc (length es))) m.is_met.node
        (record { is_met = r.is_met; within = omega (arith, r.within, m.within) })

    -- so a way that is no longer than this leads to what is met along one that is no longer
    pub level_from_root : (low : ℕ) → ((i : ℕ) (x : Met N L) → slice_get met i ≡ Some x → length x.way < low → i < place) → (es : List (Edge N L)) → Follows g g.root es → length es ≤ low
        → IsMetWithin met (end_of g.root es) (length es)
    level_from_root low had es f le =
        let r = level low had es 0 (record { node = g.root; way = [] }) s.first f (omega (arith, le)) in
        record { is_met = r.is_met; within = omega (arith, r.within) }

  module _ (p : Explored N L) (of : IsOf p g) where
    pub Stands-all : (turns : List (Turn N L)) (met : List (Met N L)) → ExploresAll p turns met → Stands g met (0 + length turns) []
    Stands-all turns met h = Stands-from_root g p of turns met h.explores

    pub meets_reachable : MeetsReachable p g
    meets_reachable turns met h b = (there, here)
      where
        s : Stands g met (0 + length turns) []
        s = Stands-all turns met h

        there : IsMet met b → IsReachable g b
        there m = subst (IsReachable g) m.node (IsReachable-way m.item (s.ways m.place m.item m.stands))

        here : IsReachable g b → IsMet met b
        here r = IsMet-reachable met (0 + length turns) [] s (let e = h.each in omega (arith, e)) b r

    pub meets_once : MeetsOnce p g
    meets_once turns met h = (Stands-all turns met h).apart

    pub has_each_step : HasEachStep p g
    has_each_step turns met h i x t at turn =
        let a = turn_at p (at_first p.root) 0 turns met h.explores i t turn in
        let same : a.0 ≡ x = one_at met i a.0 x (subst (λ k. slice_get met k ≡ Some a.0) (omega arith) a.1) at in
        let has : p.HasTurn x.node t = subst (λ y. p.HasTurn y.node t) same a.2 in
        (has, of.edges x.node t has)

    pub meets_shortly : MeetsShortly p g
    meets_shortly turns met h i x at = record { follows = w.follows; has = w.ends; shortest = shortest }
      where
        s : Stands g met (0 + length turns) []
        s = Stands-all turns met h

        w : IsWay g x.way x.node
        w = s.ways i x at

        shortest : (other : List (Edge N L)) → Follows g g.root other → end_of g.root other ≡ x.node → length x.way ≤ length other
        shortest other f ends =
            let m = level_from_root met (0 + length turns) [] s (length other) (λ j y q lt. let l = slice_get_within met j y q in let e = h.each in omega (arith, l, e)) other f (omega arith) in
            let same = s.apart m.is_met.place i m.is_met.item x m.is_met.stands at (m.is_met.node ∙ ends) in
            let one = one_at met i m.is_met.item x (subst (λ k. slice_get met k ≡ Some m.is_met.item) same m.is_met.stands) at in
            subst (λ z. length z.way ≤ length other) one m.within

    module _ (P : N → Type 0) where
      pub finds_shortest : FindsShortest p g P
      finds_shortest turns before a now e to begun none found = record { follows = w.follows; has = subst P (sym w.ends) found; shortest = shortest }
        where
          s : Stands g before (0 + length turns) []
          s = Stands-from_root g p of turns before to.explores

          turn : slice_get before (0 + length turns) ≡ Some a
          turn = subst (λ k. slice_get before k ≡ Some a) (omega arith) to.next

          edge : g.IsEdge a.node e
          edge = of.some_edges a.node (with_edge now e) begun e (in_place (now.edges ++ e ∷ []) (length now.edges) e (at_last now.edges e))

          w : IsWay g (beyond a e).way e.to
          w = IsWay-beyond g a e (s.ways (0 + length turns) a turn) edge

          had : (i : ℕ) (x : Met N L) → slice_get before i ≡ Some x → length x.way < length a.way → i < 0 + length turns
          had i x q lt = elim (cases_lt i (0 + length turns)) [ inl less ↦ less | inr ge ↦ let r = s.rising (0 + length turns) i a x turn q ge in absurd (omega (arith, r, lt)) ]

          short : (other : List (Edge N L)) → Follows g g.root other → P (end_of g.root other) → length other ≤ length a.way → ⊥
          short other f h le =
              let m = level_from_root before (0 + length turns) [] s (length a.way) had other f le in
              none (end_of g.root other) (record {
                place = m.is_met.place;
                item = m.is_met.item;
                stands = at-arrive_all p.eq a before now.edges m.is_met.place
                    m.is_met.item m.is_met.stands;
                node = m.is_met.node;
              }) h

          shortest : (other : List (Edge N L)) → Follows g g.root other → P (end_of g.root other) → length (beyond a e).way ≤ length other
          shortest other f h = elim (cases_lt (length a.way) (length other)) [
            | inl more ↦ let l = length-beyond a e in omega (arith, l, more)
            | inr le ↦ absurd (short other f h le)
          ]
