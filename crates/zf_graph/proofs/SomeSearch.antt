-- Each search has a text.
use Rattle.std.proofs.lemmas.List.{length-append}
use Rattle.zf_graph.proofs.Prelude.{◌++◌, ◌+◌, ◌<◌, ◌∙◌, ◌∷◌, ◌≡◌, ◌≤◌, ◌⊎◌, [], ap, append-nil, append_assoc, arith, arrive_all, at_first, beyond, cases_Bool, cases_lt, Edge, Explored, Explores, false, inl, inr, is_met, length, List, Met, nodes_of, refl, slice_get, slice_get_within, Some, subst, suc, sym, true, Turn, with_edge, zero, ℕ, cond-true, ◌-◌, AreOthers, Begins, doubts, EachIsTold, EachNodeHasTurn, finds, found, inner_edges, IsSomehowSearched, misses, missing, no_turn, open_ended, Result, Sought, untold, way_text, Words, breaks, pauses}
use Rattle.zf_graph.proofs.Deciding.{Decides, IsClear, is_full, is_sought, is_untold, new_behind}
use Rattle.zf_graph.proofs.Growing.{longer-arrive_all}
use Rattle.zf_graph.proofs.Places.{at_push, none_some, one_some, some_at}
use Rattle.zf_graph.proofs.Writing.{arrive_all-push, Explores-push}

module _ {N L : Type 0} (p : Explored N L) (s : Sought N) where
  -- one more that is another, or the root
  pub others-push : (met : List (Met N L)) (x : Met N L) → AreOthers p s met → (x.node ≡ p.root) ⊎ s.IsOther x.node → AreOthers p s (met ++ x ∷ [])
  others-push met x others other b m = go (at_push met x m.place m.item m.stands)
    where
      go : (slice_get met m.place ≡ Some m.item) ⊎ ((m.place ≡ length met) × (m.item ≡ x)) → (b ≡ p.root) ⊎ s.IsOther b
      go (inl at) = others b (record { place = m.place; item = m.item; stands = at; node = m.node })
      go (inr last) = subst (λ y. (y ≡ p.root) ⊎ s.IsOther y) (ap (λ y. y.node) (sym last.1) ∙ m.node) other

  pub others_first : AreOthers p s (at_first p.root)
  others_first b m = go m.place m.stands
    where
      go : (i : ℕ) → slice_get (at_first {N = N} {L = L} p.root) i ≡ Some m.item → (b ≡ p.root) ⊎ s.IsOther b
      go zero h = inl (sym m.node ∙ ap (λ y. y.node) (sym (one_some (record { node = p.root; way = [] }) m.item h)))
      go (suc i) h = absurd (none_some m.item h)

module _ {N L : Type 0} (p : Explored N L) (s : Sought N) (limit : ℕ) (told : EachIsTold p s) where
  -- an edge leads to a node that ends the search, or the search goes on after it
  data IsPassed (a : Met N L) (met : List (Met N L)) (done : List (Edge N L)) (e : Edge N L) : Type 0 where
    ended_there : (result : Result) → is_met p.eq (arrive_all p.eq a met done) e.to ≡ false → Decides p s limit (arrive_all p.eq a met done) e.to result → IsPassed a met done e
    on : IsClear p s limit (arrive_all p.eq a met (done ++ e ∷ [])) → IsPassed a met done e

  module _ (a : Met N L) (met : List (Met N L)) where
    pass : (done : List (Edge N L)) (e : Edge N L) → IsClear p s limit (arrive_all p.eq a met done) → IsPassed a met done e
    pass done e clear = by (cases_Bool (is_met p.eq (arrive_all p.eq a met done) e.to)) (told e.to) (cases_lt (length (arrive_all p.eq a met done)) limit)
      where
        now : List (Met N L)
        now = arrive_all p.eq a met done

        with_new : is_met p.eq (arrive_all p.eq a met done) e.to ≡ false → (e.to ≡ p.root) ⊎ s.IsOther e.to
            → (length (arrive_all p.eq a met done) < limit) ⊎ (limit ≤ length (arrive_all p.eq a met done)) → IsPassed a met done e
        with_new fresh other (inl lt) = on (record {
          few = (let k = ap (λ xs. length xs) (new_behind p.eq a met done e fresh) in let m = length-append (arrive_all p.eq a met done) (beyond a e ∷ []) in omega (arith, k, m, lt));
          others = subst (AreOthers p s) (sym (new_behind p.eq a met done e fresh)) (others-push p s (arrive_all p.eq a met done) (beyond a e) clear.others other);
        })
        with_new fresh other (inr ge) = ended_there open_ended fresh (is_full other (let f = clear.few in omega (arith, f, ge)) refl)

        by : (is_met p.eq (arrive_all p.eq a met done) e.to ≡ true) ⊎ (is_met p.eq (arrive_all p.eq a met done) e.to ≡ false)
            → (e.to ≡ p.root) ⊎ (s.IsSought e.to ⊎ (s.IsOther e.to ⊎ ((at : List ℕ) × s.IsUntold e.to at)))
            → (length (arrive_all p.eq a met done) < limit) ⊎ (limit ≤ length (arrive_all p.eq a met done)) → IsPassed a met done e
        by (inl known) t l = on (subst (IsClear p s limit) (sym (arrive_all-push p.eq a met done e
            ∙ cond-true (is_met p.eq (arrive_all p.eq a met done) e.to) (arrive_all p.eq a met done)
            (arrive_all p.eq a met done ++ beyond a e ∷ []) known)) clear)
        by (inr fresh) (inl root) l = with_new fresh (inl root) l
        by (inr fresh) (inr (inl sought)) l = ended_there found fresh (is_sought sought refl)
        by (inr fresh) (inr (inr (inl other))) l = with_new fresh (inr other) l
        by (inr fresh) (inr (inr (inr doubt))) l = ended_there (untold doubt.0) fresh (is_untold doubt.0 doubt.1 refl)

    -- the first edge that leads to a node which ends the search
    record IsCrossed (edges : List (Edge N L)) : Type 0 where
      pub front : List (Edge N L)
      pub edge : Edge N L
      pub more : List (Edge N L)
      pub split : edges ≡ (front ++ edge ∷ []) ++ more
      pub clear : IsClear p s limit (arrive_all p.eq a met front)
      pub fresh : is_met p.eq (arrive_all p.eq a met front) edge.to ≡ false
      pub result : Result
      pub decides : Decides p s limit (arrive_all p.eq a met front) edge.to result

    scan : (edges done rest : List (Edge N L)) → edges ≡ done ++ rest → IsClear p s limit (arrive_all p.eq a met done) → IsClear p s limit (arrive_all p.eq a met edges) ⊎ IsCrossed edges
    scan edges done [] is clear = inl (subst (λ es. IsClear p s limit (arrive_all p.eq a met es)) (sym (is ∙ append-nil done)) clear)
    scan edges done (e ∷ rest) is clear = by (pass done e clear) (scan edges (done ++ e ∷ []) rest parted)
      where
        parted : edges ≡ (done ++ e ∷ []) ++ rest
        parted = is ∙ sym (append_assoc done (e ∷ []) rest)

        by : IsPassed a met done e → (IsClear p s limit (arrive_all p.eq a met (done ++ e ∷ []))
            → IsClear p s limit (arrive_all p.eq a met edges) ⊎ IsCrossed edges) → IsClear p s limit (arrive_all p.eq a met edges) ⊎ IsCrossed edges
        by (ended_there result fresh d) next = inr (record { front = done; edge = e; more = rest; split = parted; clear = clear; fresh = fresh; result = result; decides = d })
        by (on clear2) next = next clear2

module _ {N L : Type 0} (p : Explored N L) (s : Sought N) (w : Words N L) (last : Result → (nodes edges : ℕ) → List ℕ) (limit : ℕ) (each : EachNodeHasTurn p) (told : EachIsTold p s) where
  -- so far
  record IsSoFar (turns : List (Turn N L)) (met : List (Met N L)) : Type 0 where
    pub explores : Explores p (at_first p.root) 0 turns met
    pub clear : IsClear p s limit met
    pub reached : length turns ≤ length met

  module _ (turns : List (Turn N L)) (met : List (Met N L)) (f : IsSoFar turns met) where
    done : length met ≤ length turns → IsSomehowSearched p s w last limit
    done all = (
      missing,
      w.head ++ last missing (length met - 1) (inner_edges turns no_turn),
      misses turns met (record { explores = f.explores; each = (let r = f.reached in omega (arith, r, all)) }) f.clear.few f.clear.others refl refl,
    )

    module _ (a : Met N L) (at : slice_get met (length turns) ≡ Some a) (t : Turn N L) (begins : Begins p a.node t) where
      stops_by : (c : IsCrossed p s limit told a met t.edges) (result : Result) → Decides p s limit (arrive_all p.eq a met c.front) c.edge.to result → IsSomehowSearched p s w last limit
      stops_by c result (is_sought sought is) =
          let now : Turn N L = record { stray = t.stray; edges = c.front } in (
            found,
            (w.head ++ way_text w p.eq (nodes_of (arrive_all p.eq a met (c.front ++ c.edge ∷ []))) p.root (beyond a c.edge).way)
                ++ last found (length (arrive_all p.eq a met c.front)) (inner_edges turns (with_edge now c.edge)),
            finds turns met a now c.edge (record { explores = f.explores; next = at }) (begins.fronts c.front c.edge c.more c.split) c.clear.few c.fresh c.clear.others sought refl refl,
          )
      stops_by c result (is_untold stop doubt is) =
          let now : Turn N L = record { stray = t.stray; edges = c.front } in (
            untold stop,
            w.head ++ last (untold stop) (length (arrive_all p.eq a met c.front)) (inner_edges turns (with_edge now c.edge)),
            doubts turns met a now c.edge stop (record { explores = f.explores; next = at }) (begins.fronts c.front c.edge c.more c.split) c.clear.few c.fresh c.clear.others doubt refl refl,
          )
      stops_by c result (is_full other full is) =
          let now : Turn N L = record { stray = t.stray; edges = c.front } in (
            open_ended,
            w.head ++ last open_ended limit (inner_edges turns (with_edge now c.edge)),
            pauses turns met a now c.edge (record { explores = f.explores; next = at }) (begins.fronts c.front c.edge c.more c.split) full c.fresh
                (subst (AreOthers p s) (sym (new_behind p.eq a met c.front c.edge c.fresh)) (others-push p s (arrive_all p.eq a met c.front) (beyond a c.edge) c.clear.others other)) refl refl,
          )

      stops : IsCrossed p s limit told a met t.edges → IsSomehowSearched p s w last limit
      stops c = stops_by c c.result c.decides

      breaks_off : (stop : List ℕ) → p.BreaksTurn a.node t stop → IsClear p s limit (arrive_all p.eq a met t.edges) → IsSomehowSearched p s w last limit
      breaks_off stop break clear = (
        untold stop,
        w.head ++ last (untold stop) (length (arrive_all p.eq a met t.edges) - 1) (inner_edges turns t),
        breaks turns met a t stop (record { explores = f.explores; next = at }) break clear.few clear.others refl refl,
      )

      goes_on : p.HasTurn a.node t → IsClear p s limit (arrive_all p.eq a met t.edges) → IsSoFar (turns ++ t ∷ []) (arrive_all p.eq a met t.edges)
      goes_on turn clear = record {
        explores = Explores-push p (at_first p.root) 0 turns met a t f.explores (subst (λ k. slice_get met k ≡ Some a) (omega arith) at) turn;
        clear = clear;
        reached = (let l = slice_get_within met (length turns) a at in let m = longer-arrive_all p.eq a met t.edges in let k = length-append turns (t ∷ []) in omega (arith, l, m, k));
      }

  -- the turn of the next node, where what comes after it has a text
  next_turn : (turns : List (Turn N L)) (met : List (Met N L)) → IsSoFar turns met → (a : Met N L) → slice_get met (length turns) ≡ Some a
      → ((t : Turn N L) (after : List (Met N L)) → IsSoFar (turns ++ t ∷ []) after → IsSomehowSearched p s w last limit)
      → ((t : Turn N L) × p.HasTurn a.node t × Begins p a.node t) ⊎ ((t : Turn N L) × (stop : List ℕ) × p.BreaksTurn a.node t stop × Begins p a.node t) → IsSomehowSearched p s w last limit
  next_turn turns met f a at next (inl h) = by (scan p s limit told a met h.0.edges [] h.0.edges refl f.clear)
    where
      by : IsClear p s limit (arrive_all p.eq a met h.0.edges) ⊎ IsCrossed p s limit told a met h.0.edges → IsSomehowSearched p s w last limit
      by (inl clear) = next h.0 (arrive_all p.eq a met h.0.edges) (goes_on turns met f a at h.0 h.2 h.1 clear)
      by (inr crossed) = stops turns met f a at h.0 h.2 crossed
  next_turn turns met f a at next (inr h) = by (scan p s limit told a met h.0.edges [] h.0.edges refl f.clear)
    where
      by : IsClear p s limit (arrive_all p.eq a met h.0.edges) ⊎ IsCrossed p s limit told a met h.0.edges → IsSomehowSearched p s w last limit
      by (inl clear) = breaks_off turns met f a at h.0 h.3 h.1 h.2 clear
      by (inr crossed) = stops turns met f a at h.0 h.3 crossed

  due : (turns : List (Turn N L)) (met : List (Met N L)) → IsSoFar turns met → ((t : Turn N L) (after : List (Met N L)) → IsSoFar (turns ++ t ∷ []) after → IsSomehowSearched p s w last limit)
      → (length turns < length met) ⊎ (length met ≤ length turns) → IsSomehowSearched p s w last limit
  due turns met f next (inl lt) = let a = some_at met (length turns) lt in next_turn turns met f a.0 a.1 next (each a.0.node)
  due turns met f next (inr ge) = done turns met f ge

  -- by how many turns are ahead at most
  go : (fuel : ℕ) (turns : List (Turn N L)) (met : List (Met N L)) → IsSoFar turns met → limit ≤ length turns + fuel → IsSomehowSearched p s w last limit
  go zero turns met f enough = done turns met f (let c = f.clear.few in omega (arith, c, enough))
  go (suc fuel) turns met f enough =
      due turns met f (λ t after h. go fuel (turns ++ t ∷ []) after h (let k = length-append turns (t ∷ []) in omega (arith, k, enough))) (cases_lt (length turns) (length met))

  pub somehow_searched : 1 ≤ limit → IsSomehowSearched p s w last limit
  somehow_searched some = go limit [] (at_first p.root) (record { explores = refl; clear = record { few = some; others = others_first p s }; reached = omega arith }) (omega arith)
