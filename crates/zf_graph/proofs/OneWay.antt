-- Two explorations of one graph are one.
use Rattle.std.proofs.lemmas.List.{length-append, same_from_push}
use Rattle.zf_graph.proofs.Prelude.{◌++◌, ◌+◌, ◌∙◌, ◌∷◌, ◌≡◌, ◌≤◌, ◌⊎◌, [], ap, arith, Bool, false, inl, inr, length, List, refl, Some, subst, suc, sym, ℕ, slice_get, slice_get_within, Edge, Turn, Explored, Met, at_first, is_met, beyond, arrive_all, Explores, with_edge, append_assoc, append-nil, cond-false, ◌-◌, broken, ended, Ending, ends, inner_edges, IsExplored, IsFrontTurn, IsSure, IsWrittenInOneWay, no_turn, paused, text_up_to, Words}
use Rattle.zf_graph.proofs.Places.{one_at}
use Rattle.zf_graph.proofs.Growing.{longer-arrive_all, longer-Explores, longer-more}
use Rattle.zf_graph.proofs.Writing.{arrive_all-push}
use Rattle.zf_graph.specs.Texts.{breaks, pauses}

module _ {N L : Type 0} where
  -- with an edge to a new node there is one more
  pub one_more : (eq : N → N → Bool) (a : Met N L) (met : List (Met N L)) (es : List (Edge N L)) (e : Edge N L) → is_met eq (arrive_all eq a met es) e.to ≡ false
      → length (arrive_all eq a met (es ++ e ∷ [])) ≡ length (arrive_all eq a met es) + 1
  one_more eq a met es e fresh =
      ap (λ xs. length xs) (arrive_all-push eq a met es e ∙ cond-false (is_met eq (arrive_all eq a met es) e.to) (arrive_all eq a met es) (arrive_all eq a met es ++ beyond a e ∷ []) fresh)
      ∙ length-append (arrive_all eq a met es) (beyond a e ∷ [])

  -- ---- turns

  -- the second one has a turn of the node before which the first one ends
  pub record IsLonger (p : Explored N L) (place : ℕ) (ts us : List (Turn N L)) (met after : List (Met N L)) : Type 0 where
    pub turn : Turn N L
    pub item : Met N L
    pub rest : List (Turn N L)
    pub split : us ≡ ts ++ turn ∷ rest
    pub at : slice_get met (place + length ts) ≡ Some item
    pub has : p.HasTurn item.node turn
    pub explores : Explores p (arrive_all p.eq item met turn.edges) ((place + length ts) + 1) rest after

  IsLonger-shift : (p : Explored N L) (place : ℕ) (t u : Turn N L) (ts us : List (Turn N L)) (met after : List (Met N L)) → t ≡ u
      → IsLonger p (place + 1) ts us met after → IsLonger p place (t ∷ ts) (u ∷ us) met after
  IsLonger-shift p place t u ts us met after e l =
      let same : (place + 1) + length ts ≡ place + suc (length ts) = omega arith in
      record {
        turn = l.turn;
        item = l.item;
        rest = l.rest;
        split = ap (λ x. x ∷ us) (sym e) ∙ ap (λ xs. t ∷ xs) l.split;
        at = subst (λ k. slice_get met k ≡ Some l.item) same l.at;
        has = l.has;
        explores = subst (λ k. Explores p (arrive_all p.eq l.item met l.turn.edges) (k + 1) l.rest after) same l.explores;
      }

  -- two lists of turns: they are one, or one of them goes on after the other
  pub data IsCompared (p : Explored N L) (place : ℕ) (ts us : List (Turn N L)) (one two : List (Met N L)) : Type 0 where
    same : ts ≡ us → one ≡ two → IsCompared p place ts us one two
    shorter : IsLonger p place ts us one two → IsCompared p place ts us one two
    longer : IsLonger p place us ts two one → IsCompared p place ts us one two

  behind : (p : Explored N L) (place : ℕ) (t u : Turn N L) (ts us : List (Turn N L)) (one two : List (Met N L)) → t ≡ u
      → IsCompared p (place + 1) ts us one two → IsCompared p place (t ∷ ts) (u ∷ us) one two
  behind p place t u ts us one two e (same f g) = same (ap (λ x. x ∷ ts) e ∙ ap (λ xs. u ∷ xs) f) g
  behind p place t u ts us one two e (shorter l) = shorter (IsLonger-shift p place t u ts us one two e l)
  behind p place t u ts us one two e (longer l) = longer (IsLonger-shift p place u t us ts two one (sym e) l)

  begins_longer : (p : Explored N L) (met : List (Met N L)) (place : ℕ) (u : Turn N L) (us : List (Turn N L)) (one two : List (Met N L)) → one ≡ met
      → Explores p met place (u ∷ us) two → IsLonger p place [] (u ∷ us) one two
  begins_longer p met place u us one two g h =
      let none : place ≡ place + 0 = omega arith in
      record {
        turn = u;
        item = h.0;
        rest = us;
        split = refl;
        at = subst (λ m. slice_get m (place + 0) ≡ Some h.0) (sym g) (subst (λ k. slice_get met k ≡ Some h.0) none h.1);
        has = h.2;
        explores = subst (λ m. Explores p (arrive_all p.eq h.0 m u.edges) ((place + 0) + 1) us two) (sym g) (subst (λ k. Explores p (arrive_all p.eq h.0 met u.edges) (k + 1) us two) none h.3);
      }

  module _ (p : Explored N L) (sure : IsSure p) where
    pub compare : (met : List (Met N L)) (place : ℕ) (ts us : List (Turn N L)) (one two : List (Met N L)) → Explores p met place ts one → Explores p met place us two → IsCompared p place ts us one two
    compare met place [] [] one two g h = same refl (g ∙ sym h)
    compare met place [] (u ∷ us) one two g h = shorter (begins_longer p met place u us one two g h)
    compare met place (t ∷ ts) [] one two g h = longer (begins_longer p met place t ts two one h g)
    compare met place (t ∷ ts) (u ∷ us) one two g h =
        let item : g.0 ≡ h.0 = one_at met place g.0 h.0 g.1 h.1 in
        let turn : t ≡ u = sure.one_turn h.0.node t u (subst (λ a. p.HasTurn a.node t) item g.2) h.2 in
        let later : Explores p (arrive_all p.eq g.0 met t.edges) (place + 1) us two =
        subst (λ a. Explores p (arrive_all p.eq a met t.edges) (place + 1) us two) (sym item) (subst (λ x. Explores p (arrive_all p.eq h.0 met x.edges) (place + 1) us two) (sym turn) h.3) in
        behind p place t u ts us one two turn (compare (arrive_all p.eq g.0 met t.edges) (place + 1) ts us one two g.3 later)

  -- ---- ends

  -- how an exploration with these turns ends
  pub data Tail (p : Explored N L) (w : Words N L) (limit : ℕ) (turns : List (Turn N L)) (met : List (Met N L)) (ending : Ending) (text : List ℕ) : Type 0 where
    all : length turns ≡ length met → ending ≡ ended → text ≡ text_up_to p w turns met no_turn ++ w.last ended (length met - 1) (inner_edges turns no_turn) → Tail p w limit turns met ending text
    full : (a : Met N L) (now : Turn N L) (e : Edge N L) → slice_get met (length turns) ≡ Some a → p.BeginsTurn a.node (with_edge now e) → length (arrive_all p.eq a met now.edges) ≡ limit
        → is_met p.eq (arrive_all p.eq a met now.edges) e.to ≡ false → ending ≡ paused → text ≡ text_up_to p w turns met (with_edge now e) ++ w.last paused limit (inner_edges turns (with_edge now e))
        → Tail p w limit turns met ending text
    out : (a : Met N L) (now : Turn N L) (stop : List ℕ) → slice_get met (length turns) ≡ Some a → p.BreaksTurn a.node now stop → length (arrive_all p.eq a met now.edges) ≤ limit
        → ending ≡ broken stop → text ≡ text_up_to p w turns met now ++ w.last (broken stop) (length (arrive_all p.eq a met now.edges) - 1)
        (inner_edges turns now) → Tail p w limit turns met ending text

  pub record Stop (p : Explored N L) (w : Words N L) (limit : ℕ) (ending : Ending) (text : List ℕ) : Type 0 where
    pub turns : List (Turn N L)
    pub met : List (Met N L)
    pub explores : Explores p (at_first p.root) 0 turns met
    pub few : length met ≤ limit
    pub tail : Tail p w limit turns met ending text

  pub stop_of : (p : Explored N L) (w : Words N L) (limit : ℕ) (ending : Ending) (text : List ℕ) → IsExplored p w limit ending text → Stop p w limit ending text
  stop_of p w limit ending text (ends turns met h few e t) = record { turns = turns; met = met; explores = h.explores; few = few; tail = all h.each e t }
  stop_of p w limit ending text (pauses turns met a now e h begun many fresh is t) = record {
    turns = turns;
    met = met;
    explores = h.explores;
    few = (let l = longer-arrive_all p.eq a met now.edges in omega (arith, l, many));
    tail = full a now e h.next begun many fresh is t;
  }
  stop_of p w limit ending text (breaks turns met a now stop h break few is t) = record {
    turns = turns;
    met = met;
    explores = h.explores;
    few = (let l = longer-arrive_all p.eq a met now.edges in omega (arith, l, few));
    tail = out a now stop h.next break few is t;
  }

  -- a list with an item has a last one
  pub last_of : (x : Edge N L) (xs : List (Edge N L)) → (front : List (Edge N L)) × (e : Edge N L) × (x ∷ xs ≡ front ++ e ∷ [])
  last_of x [] = ([], x, refl)
  last_of x (y ∷ xs) = let r = last_of y xs in (x ∷ r.0, r.1, ap (λ l. x ∷ l) r.2)

  module _ (p : Explored N L) (w : Words N L) (limit : ℕ) (sure : IsSure p) where
    -- what goes on after a full turn meets more than the limit has
    pub too_many : (a : Met N L) (met : List (Met N L)) (now : Turn N L) (e : Edge N L) (more es : List (Edge N L))
        → length (arrive_all p.eq a met now.edges) ≡ limit → is_met p.eq (arrive_all p.eq a met now.edges) e.to ≡ false
        → es ≡ (now.edges ++ e ∷ []) ++ more → length (arrive_all p.eq a met es) ≤ limit → ⊥
    too_many a met now e more es many fresh is few =
        let l = one_more p.eq a met now.edges e fresh in
        let m = longer-more p.eq a met (now.edges ++ e ∷ []) more in
        let k = ap (λ xs. length (arrive_all p.eq a met xs)) is in
        omega (arith, l, m, k, many, few)

    pub same_turns : (t u : Turn N L) → t.stray ≡ u.stray → t.edges ≡ u.edges → t ≡ u
    same_turns t u e f = (λ i. record { stray = e i; edges = f i })

    module _ (turns : List (Turn N L)) (met : List (Met N L)) where
      -- two full turns, one of which begins the other, are one
      same_full : (a : Met N L) (now other : Turn N L) (e d : Edge N L) → length (arrive_all p.eq a met now.edges) ≡ limit → is_met p.eq (arrive_all p.eq a met now.edges) e.to ≡ false
          → length (arrive_all p.eq a met other.edges) ≡ limit → IsFrontTurn (with_edge now e) (with_edge other d) → with_edge now e ≡ with_edge other d
      same_full a now other e d many fresh filled f = go f.more f.edges
        where
          go : (more : List (Edge N L)) → other.edges ++ d ∷ [] ≡ (now.edges ++ e ∷ []) ++ more → with_edge now e ≡ with_edge other d
          go [] is = same_turns (with_edge now e) (with_edge other d) f.stray (sym (append-nil (now.edges ++ e ∷ [])) ∙ sym is)
          go (m ∷ ms) is =
              let r = last_of m ms in
              let parted = same_from_push other.edges ((now.edges ++ e ∷ []) ++ r.0) d r.1 (is ∙ ap (λ l. (now.edges ++ e ∷ []) ++ l) r.2 ∙ sym (append_assoc (now.edges ++ e ∷ []) r.0 (r.1 ∷ []))) in
              absurd (too_many a met now e r.0 other.edges many fresh parted.0 (omega (arith, filled)))

      pub open_after : (a : Met N L) → slice_get met (length turns) ≡ Some a → length turns ≡ length met → ⊥
      open_after a at each = let l = slice_get_within met (length turns) a at in omega (arith, l, each)

      full_text : (now other : Turn N L) (e d : Edge N L) (s t : List ℕ) → with_edge now e ≡ with_edge other d
          → s ≡ text_up_to p w turns met (with_edge now e) ++ w.last paused limit (inner_edges turns (with_edge now e))
          → t ≡ text_up_to p w turns met (with_edge other d) ++ w.last paused limit (inner_edges turns (with_edge other d)) → s ≡ t
      full_text now other e d s t is one two = one ∙ ap (λ u. text_up_to p w turns met u ++ w.last paused limit (inner_edges turns u)) is ∙ sym two

      full_broken : (a b : Met N L) (now other : Turn N L) (e : Edge N L) (stop : List ℕ) → slice_get met (length turns) ≡ Some a
          → slice_get met (length turns) ≡ Some b → p.BeginsTurn a.node (with_edge now e)
          → length (arrive_all p.eq a met now.edges) ≡ limit → is_met p.eq (arrive_all p.eq a met now.edges) e.to ≡ false → p.BreaksTurn b.node other stop
          → length (arrive_all p.eq b met other.edges) ≤ limit → ⊥
      full_broken a b now other e stop at there begun many fresh break few =
          let item : a ≡ b = one_at met (length turns) a b at there in
          let f = sure.begins_broken a.node (with_edge now e) other stop begun (subst (λ x. p.BreaksTurn x.node other stop) (sym item) break) in
          too_many a met now e f.more other.edges many fresh f.edges (subst (λ x. length (arrive_all p.eq x met other.edges) ≤ limit) (sym item) few)

      both_full : (a : Met N L) (now other : Turn N L) (e d : Edge N L) → length (arrive_all p.eq a met now.edges) ≡ limit → is_met p.eq (arrive_all p.eq a met now.edges) e.to ≡ false
          → length (arrive_all p.eq a met other.edges) ≡ limit → is_met p.eq (arrive_all p.eq a met other.edges) d.to ≡ false
          → IsFrontTurn (with_edge now e) (with_edge other d) ⊎ IsFrontTurn (with_edge other d) (with_edge now e) → with_edge now e ≡ with_edge other d
      both_full a now other e d many fresh filled new (inl f) = same_full a now other e d many fresh filled f
      both_full a now other e d many fresh filled new (inr f) = sym (same_full a other now d e filled new many f)

      one_tail : (e f : Ending) (s t : List ℕ) → Tail p w limit turns met e s → Tail p w limit turns met f t → (e ≡ f) × (s ≡ t)
      one_tail e f s t (all each is text) (all each2 is2 text2) = (is ∙ sym is2, text ∙ sym text2)
      one_tail e f s t (all each is text) (full b other d there begun2 many2 fresh2 is2 text2) = absurd (open_after b there each)
      one_tail e f s t (all each is text) (out b other stop2 there break2 few2 is2 text2) = absurd (open_after b there each)
      one_tail e f s t (full a now c at begun many fresh is text) (all each2 is2 text2) = absurd (open_after a at each2)
      one_tail e f s t (full a now c at begun many fresh is text) (full b other d there begun2 many2 fresh2 is2 text2) =
          let item : b ≡ a = one_at met (length turns) b a there at in
          let same = both_full a now other c d many fresh (subst (λ x. length (arrive_all p.eq x met other.edges) ≡ limit) item many2)
          (subst (λ x. is_met p.eq (arrive_all p.eq x met other.edges) d.to ≡ false) item fresh2)
          (sure.begins_both a.node (with_edge now c) (with_edge other d) begun (subst (λ x. p.BeginsTurn x.node (with_edge other d)) item begun2)) in
          (is ∙ sym is2, full_text now other c d s t same text text2)
      one_tail e f s t (full a now c at begun many fresh is text) (out b other stop2 there break2 few2 is2 text2) = absurd (full_broken a b now other c stop2 at there begun many fresh break2 few2)
      one_tail e f s t (out a now stop at break few is text) (all each2 is2 text2) = absurd (open_after a at each2)
      one_tail e f s t (out a now stop at break few is text) (full b other d there begun2 many2 fresh2 is2 text2) = absurd (full_broken b a other now d stop there at begun2 many2 fresh2 break few)
      one_tail e f s t (out a now stop at break few is text) (out b other stop2 there break2 few2 is2 text2) =
          let item : b ≡ a = one_at met (length turns) b a there at in
          let same = sure.one_break a.node now other stop stop2 break (subst (λ x. p.BreaksTurn x.node other stop2) item break2) in (
            is ∙ ap broken same.1 ∙ sym is2,
            text
                ∙ ap (λ u. text_up_to p w turns met u ++ w.last (broken stop) (length (arrive_all p.eq a met u.edges) - 1) (inner_edges turns u)) same.0
                ∙ ap (λ x. text_up_to p w turns met other ++ w.last (broken x) (length (arrive_all p.eq a met other.edges) - 1) (inner_edges turns other)) same.1
                ∙ ap (λ x. text_up_to p w turns met other ++ w.last (broken stop2) (length (arrive_all p.eq x met other.edges) - 1) (inner_edges turns other)) (sym item)
                ∙ sym text2,
          )

      -- where one ends, no other one goes on
      pub not_longer : (e : Ending) (s : List ℕ) (us : List (Turn N L)) (after : List (Met N L)) → Tail p w limit turns met e s → IsLonger p 0 turns us met after → length after ≤ limit → ⊥
      not_longer e s us after (all each is text) l few = open_after l.item (subst (λ k. slice_get met k ≡ Some l.item) (omega arith) l.at) each
      not_longer e s us after (full a now c at begun many fresh is text) l few =
          let item : l.item ≡ a = one_at met (length turns) l.item a (subst (λ k. slice_get met k ≡ Some l.item) (omega arith) l.at) at in
          let f = sure.begins_whole a.node (with_edge now c) l.turn begun (subst (λ x. p.HasTurn x.node l.turn) item l.has) in
          let more = longer-Explores p (arrive_all p.eq l.item met l.turn.edges) ((0 + length turns) + 1) l.rest after l.explores in
          let all' = subst (λ x. length (arrive_all p.eq x met l.turn.edges) ≤ length after) item more in
          too_many a met now c f.more l.turn.edges many fresh f.edges (omega (arith, all', few))
      not_longer e s us after (out a now stop at break few is text) l few2 =
          let item : l.item ≡ a = one_at met (length turns) l.item a (subst (λ k. slice_get met k ≡ Some l.item) (omega arith) l.at) at in
          sure.not_both a.node l.turn now stop (subst (λ x. p.HasTurn x.node l.turn) item l.has) break

    one_way_by : (e f : Ending) (s t : List ℕ) (g : Stop p w limit e s) (h : Stop p w limit f t) → IsCompared p 0 g.turns h.turns g.met h.met → (e ≡ f) × (s ≡ t)
    one_way_by e f s t g h (same ts ms) = one_tail h.turns h.met e f s t (subst (λ xs. Tail p w limit xs h.met e s) ts (subst (λ m. Tail p w limit g.turns m e s) ms g.tail)) h.tail
    one_way_by e f s t g h (shorter l) = absurd (not_longer g.turns g.met e s h.turns h.met g.tail l h.few)
    one_way_by e f s t g h (longer l) = absurd (not_longer h.turns h.met f t g.turns g.met h.tail l g.few)

    pub one_way : IsWrittenInOneWay p w limit
    one_way e f s t x y =
        let g = stop_of p w limit e s x in
        let h = stop_of p w limit f t y in
        one_way_by e f s t g h (compare p sure (at_first p.root) 0 g.turns h.turns g.met h.met g.explores h.explores)
