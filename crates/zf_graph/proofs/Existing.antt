-- Each exploration has a text.
use Rattle.std.proofs.lemmas.List.{length-append}
use Rattle.zf_graph.proofs.Prelude.{◌++◌, ◌+◌, ◌<◌, ◌∙◌, ◌∷◌, ◌≡◌, ◌≤◌, ◌⊎◌, [], ap, arith, Bool, cases_Bool, cases_lt, false, inl, inr, length, List, refl, Some, subst, suc, sym, true, zero, ℕ, slice_get, slice_get_within, Edge, Turn, Explored, Met, at_first, is_met, beyond, arrive_all, Explores, with_edge, append_assoc, cond-true, cond-false, ◌-◌, Begins, broken, EachNodeHasTurn, ended, ends, inner_edges, IsSomehowWritten, no_turn, paused, text_up_to, Words}
use Rattle.zf_graph.proofs.Growing.{longer-arrive_all}
use Rattle.zf_graph.proofs.Places.{some_at}
use Rattle.zf_graph.proofs.Writing.{arrive_all-push, Explores-push}
use Rattle.zf_graph.specs.Texts.{breaks, pauses}

module _ {N L : Type 0} (eq : N → N → Bool) (a : Met N L) (met : List (Met N L)) (limit : ℕ) where
  -- the edges bring no more nodes than the limit has, or one of them does first
  record IsCrossed (edges : List (Edge N L)) : Type 0 where
    pub front : List (Edge N L)
    pub edge : Edge N L
    pub more : List (Edge N L)
    pub split : edges ≡ (front ++ edge ∷ []) ++ more
    pub full : length (arrive_all eq a met front) ≡ limit
    pub fresh : is_met eq (arrive_all eq a met front) edge.to ≡ false

  scan : (edges done rest : List (Edge N L)) → edges ≡ done ++ rest → length (arrive_all eq a met done) ≤ limit → (length (arrive_all eq a met edges) ≤ limit) ⊎ IsCrossed edges
  scan edges done [] is few = inl (subst (λ es. length (arrive_all eq a met es) ≤ limit) (sym (is ∙ append_nil' done)) few)
    where
      append_nil' : (xs : List (Edge N L)) → xs ++ [] ≡ xs
      append_nil' [] = refl
      append_nil' (x ∷ xs) = ap (λ l. x ∷ l) (append_nil' xs)
  scan edges done (e ∷ rest) is few = by (cases_Bool (is_met eq (arrive_all eq a met done) e.to)) (cases_lt (length (arrive_all eq a met done)) limit) (scan edges (done ++ e ∷ []) rest parted)
    where
      parted : edges ≡ (done ++ e ∷ []) ++ rest
      parted = is ∙ sym (append_assoc done (e ∷ []) rest)

      by : (is_met eq (arrive_all eq a met done) e.to ≡ true) ⊎ (is_met eq (arrive_all eq a met done) e.to ≡ false)
          → (length (arrive_all eq a met done) < limit) ⊎ (limit ≤ length (arrive_all eq a met done))
          → (length (arrive_all eq a met (done ++ e ∷ [])) ≤ limit → (length (arrive_all eq a met edges) ≤ limit) ⊎ IsCrossed edges) → (length (arrive_all eq a met edges) ≤ limit) ⊎ IsCrossed edges
      by (inl known) lt next = next (let k = ap (λ xs. length xs) (arrive_all-push eq a met done e
          ∙ cond-true (is_met eq (arrive_all eq a met done) e.to) (arrive_all eq a met done) (arrive_all eq a met done ++ beyond a e ∷ []) known) in omega
          (arith, k, few))
      by (inr fresh) (inl lt) next = next (let k = ap (λ xs. length xs) (arrive_all-push eq a met done e
          ∙ cond-false (is_met eq (arrive_all eq a met done) e.to) (arrive_all eq a met done) (arrive_all eq a met done ++ beyond a e ∷ []) fresh) in let m
          = length-append (arrive_all eq a met done) (beyond a e ∷ []) in omega (arith, k, m, lt))
      by (inr fresh) (inr ge) next = inr (record { front = done; edge = e; more = rest; split = parted; full = omega (arith, ge, few); fresh = fresh })

module _ {N L : Type 0} (p : Explored N L) (w : Words N L) (limit : ℕ) (each : EachNodeHasTurn p) where
  -- so far
  record IsSoFar (turns : List (Turn N L)) (met : List (Met N L)) : Type 0 where
    pub explores : Explores p (at_first p.root) 0 turns met
    pub few : length met ≤ limit
    pub reached : length turns ≤ length met

  module _ (turns : List (Turn N L)) (met : List (Met N L)) (s : IsSoFar turns met) where
    done : length met ≤ length turns → IsSomehowWritten p w limit
    done all = (
      ended,
      text_up_to p w turns met no_turn ++ w.last ended (length met - 1) (inner_edges turns no_turn),
      ends turns met (record { explores = s.explores; each = (let r = s.reached in omega (arith, r, all)) }) s.few refl refl,
    )

    module _ (a : Met N L) (at : slice_get met (length turns) ≡ Some a) (t : Turn N L) (begins : Begins p a.node t) where
      stops : IsCrossed p.eq a met limit t.edges → IsSomehowWritten p w limit
      stops c =
          let now : Turn N L = record { stray = t.stray; edges = c.front } in (
            paused,
            text_up_to p w turns met (with_edge now c.edge) ++ w.last paused limit (inner_edges turns (with_edge now c.edge)),
            pauses turns met a now c.edge (record { explores = s.explores; next = at }) (begins.fronts c.front c.edge c.more c.split) c.full c.fresh refl refl,
          )

      breaks_off : (stop : List ℕ) → p.BreaksTurn a.node t stop → length (arrive_all p.eq a met t.edges) ≤ limit → IsSomehowWritten p w limit
      breaks_off stop break few = (
        broken stop,
        text_up_to p w turns met t ++ w.last (broken stop) (length (arrive_all p.eq a met t.edges) - 1) (inner_edges turns t),
        breaks turns met a t stop (record { explores = s.explores; next = at }) break few refl refl,
      )

      goes_on : p.HasTurn a.node t → length (arrive_all p.eq a met t.edges) ≤ limit → IsSoFar (turns ++ t ∷ []) (arrive_all p.eq a met t.edges)
      goes_on turn few = record {
        explores = Explores-push p (at_first p.root) 0 turns met a t s.explores (subst (λ k. slice_get met k ≡ Some a) (omega arith) at) turn;
        few = few;
        reached = (let l = slice_get_within met (length turns) a at in let m = longer-arrive_all p.eq a met t.edges in let k = length-append turns (t ∷ []) in omega (arith, l, m, k));
      }

  -- the turn of the next node, where what comes after it has a text
  next_turn : (turns : List (Turn N L)) (met : List (Met N L)) → IsSoFar turns met → (a : Met N L) → slice_get met (length turns) ≡ Some a
      → ((t : Turn N L) (after : List (Met N L)) → IsSoFar (turns ++ t ∷ []) after → IsSomehowWritten p w limit)
      → ((t : Turn N L) × p.HasTurn a.node t × Begins p a.node t) ⊎ ((t : Turn N L) × (stop : List ℕ) × p.BreaksTurn a.node t stop × Begins p a.node t) → IsSomehowWritten p w limit
  next_turn turns met s a at next (inl h) = by (scan p.eq a met limit h.0.edges [] h.0.edges refl s.few)
    where
      by : (length (arrive_all p.eq a met h.0.edges) ≤ limit) ⊎ IsCrossed p.eq a met limit h.0.edges → IsSomehowWritten p w limit
      by (inl few) = next h.0 (arrive_all p.eq a met h.0.edges) (goes_on turns met s a at h.0 h.2 h.1 few)
      by (inr crossed) = stops turns met s a at h.0 h.2 crossed
  next_turn turns met s a at next (inr h) = by (scan p.eq a met limit h.0.edges [] h.0.edges refl s.few)
    where
      by : (length (arrive_all p.eq a met h.0.edges) ≤ limit) ⊎ IsCrossed p.eq a met limit h.0.edges → IsSomehowWritten p w limit
      by (inl few) = breaks_off turns met s a at h.0 h.3 h.1 h.2 few
      by (inr crossed) = stops turns met s a at h.0 h.3 crossed

  due : (turns : List (Turn N L)) (met : List (Met N L)) → IsSoFar turns met → ((t : Turn N L) (after : List (Met N L)) → IsSoFar (turns ++ t ∷ []) after → IsSomehowWritten p w limit)
      → (length turns < length met) ⊎ (length met ≤ length turns) → IsSomehowWritten p w limit
  due turns met s next (inl lt) = let a = some_at met (length turns) lt in next_turn turns met s a.0 a.1 next (each a.0.node)
  due turns met s next (inr ge) = done turns met s ge

  -- by how many turns are ahead at most
  go : (fuel : ℕ) (turns : List (Turn N L)) (met : List (Met N L)) → IsSoFar turns met → limit ≤ length turns + fuel → IsSomehowWritten p w limit
  go zero turns met s enough = done turns met s (let f = s.few in omega (arith, f, enough))
  go (suc fuel) turns met s enough =
      due turns met s (λ t after h. go fuel (turns ++ t ∷ []) after h (let k = length-append turns (t ∷ []) in omega (arith, k, enough))) (cases_lt (length turns) (length met))

  pub somehow_written : 1 ≤ limit → IsSomehowWritten p w limit
  somehow_written some = go limit [] (at_first p.root) (record { explores = refl; few = some; reached = omega arith }) (omega arith)
