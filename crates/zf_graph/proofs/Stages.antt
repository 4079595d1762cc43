-- How an exploration that is written goes on, and how it ends.
use Rattle.std.proofs.lemmas.List.{length-append, length-map, same_from_push}
use Rattle.zf_graph.proofs.Prelude.{◌++◌, ◌+◌, ◌<◌, ◌∙◌, ◌∷◌, ◌≡◌, ◌≤◌, ◌⊎◌, [], ap, arith, Bool, cond, false, inl, inr, length, List, refl, Some, subst, sym, ℕ, append_assoc, append-nil, slice_get, slice_get_within, Edge, Turn, Explored, with_node, Met, nodes_of, at_first, is_met, arrive_all, with_edge, ◌-◌, list_any, begun_text, broken, edge_text, edges_in, ended, ends, inner_edges, IsExplored, IsPartlyExplored, no_turn, paused, StandsBefore, StandsIn, stuck_text, text_up_to, turns_text, Words}
use Rattle.zf_graph.specs.Texts.{breaks, pauses}
use Rattle.zf_graph.proofs.Places.{at_map, map_at}
use Rattle.zf_graph.proofs.Growing.{at-arrive_all, longer-arrive_all, longer-more}
use Rattle.zf_graph.proofs.Writing.{arrive_all-push, begun_text-push, Explores-push, nodes_of-arrive, nodes_of-arrive_all, turns_text-push}

module _ {N L : Type 0} where
  pub edges_in-push : (ts : List (Turn N L)) (t : Turn N L) → edges_in (ts ++ t ∷ []) ≡ edges_in ts + length t.edges
  edges_in-push [] t = omega arith
  edges_in-push (u ∷ ts) t = let r = edges_in-push ts t in omega (arith, r)

  pub inner_edges-push : (ts : List (Turn N L)) (t : Turn N L) → inner_edges (ts ++ t ∷ []) no_turn ≡ inner_edges ts t
  inner_edges-push [] t = refl
  inner_edges-push (u ∷ ts) t = let r = edges_in-push ts t in omega (arith, r)

  pub inner_edges-none : (ts : List (Turn N L)) (stray : Bool) → inner_edges ts no_turn ≡ inner_edges ts (record { stray = stray; edges = [] })
  inner_edges-none [] stray = refl
  inner_edges-none (t ∷ ts) stray = refl

  -- the count with one more edge: that of an edge of the root stays
  pub inner_edges-edge : (ts : List (Turn N L)) (now : Turn N L) (e : Edge N L) (next : ℕ) → (length ts ≡ 0 → next ≡ inner_edges ts now) → (0 < length ts → next ≡ inner_edges ts now + 1)
      → next ≡ inner_edges ts (with_edge now e)
  inner_edges-edge [] now e next none some = none refl
  inner_edges-edge (t ∷ ts) now e next none some = let s = some (omega arith) in let l = length-append now.edges (e ∷ []) in omega (arith, s, l)

module _ {N L : Type 0} (p : Explored N L) (w : Words N L) (limit : ℕ) where
  -- at first
  pub stands_first : 1 ≤ limit → StandsBefore p w limit (p.root ∷ []) 0 0 w.head
  stands_first some = record { turns = []; met = at_first p.root; explores = refl; placed = refl; of_nodes = refl; within = some; counted = refl; written = sym (append-nil w.head) }

  -- a turn begins
  pub stands_begun : (nodes : List N) (place inner : ℕ) (text : List ℕ) (b : N) (stray : Bool) → StandsBefore p w limit nodes place inner text → slice_get nodes place ≡ Some b
      → StandsIn p w limit b (record { stray = stray; edges = [] }) nodes place inner (text ++ cond stray (w.stray place) [])
  stands_begun nodes place inner text b stray s at =
      let m = map_at (λ (x : Met N L). x.node) s.met place b (subst (λ ns. slice_get ns place ≡ Some b) s.of_nodes at) in
      record {
        turns = s.turns;
        met = s.met;
        item = m.0;
        up_to = record { explores = s.explores; next = subst (λ k. slice_get s.met k ≡ Some m.0) (sym s.placed) m.1 };
        of_node = m.2;
        placed = s.placed;
        of_nodes = s.of_nodes;
        within = s.within;
        counted = s.counted ∙ inner_edges-none s.turns stray;
        written = ap (λ t. t ++ cond stray (w.stray place) []) s.written
            ∙ ap (λ k. (w.head ++ turns_text w p.eq 0 (p.root ∷ []) s.turns) ++ cond stray (w.stray k) []) (sym s.placed)
            ∙ ap (λ t. (w.head ++ turns_text w p.eq 0 (p.root ∷ []) s.turns) ++ t) (sym (append-nil (cond stray (w.stray (length s.turns)) [])));
      }

  module _ (node : N) (now : Turn N L) (nodes : List N) (place inner : ℕ) (text : List ℕ) (s : StandsIn p w limit node now nodes place inner text) where
    -- the text with one more edge
    text_with_edge : (e : Edge N L) → text ++ edge_text w p.eq place nodes e ≡ text_up_to p w s.turns s.met (with_edge now e)
    text_with_edge e =
        let old = w.head ++ turns_text w p.eq 0 (p.root ∷ []) s.turns in
        let begun = begun_text w p.eq (length s.turns) (nodes_of s.met) now in
        ap (λ t. t ++ edge_text w p.eq place nodes e) s.written
        ∙ append_assoc old begun (edge_text w p.eq place nodes e)
        ∙ ap (λ k. old ++ (begun ++ edge_text w p.eq k nodes e)) (sym s.placed)
        ∙ ap (λ ns. old ++ (begun ++ edge_text w p.eq (length s.turns) ns e)) (s.of_nodes ∙ nodes_of-arrive_all p.eq s.item s.met now.edges)
        ∙ ap (λ t. old ++ t) (sym (begun_text-push w p.eq (length s.turns) (nodes_of s.met) now e))

    nodes_with_edge : (e : Edge N L) → with_node p.eq nodes e.to ≡ nodes_of (arrive_all p.eq s.item s.met (with_edge now e).edges)
    nodes_with_edge e =
        ap (λ ns. with_node p.eq ns e.to) s.of_nodes
        ∙ sym (nodes_of-arrive p.eq s.item (arrive_all p.eq s.item s.met now.edges) e)
        ∙ ap nodes_of (sym (arrive_all-push p.eq s.item s.met now.edges e))

    length_nodes : length nodes ≡ length (arrive_all p.eq s.item s.met now.edges)
    length_nodes = ap length s.of_nodes ∙ length-map (arrive_all p.eq s.item s.met now.edges) (λ x. x.node)

    -- an edge is passed
    pub stands_passed : (e : Edge N L) (next : ℕ) → length (with_node p.eq nodes e.to) ≤ limit → (place ≡ 0 → next ≡ inner) → (0 < place → next ≡ inner + 1)
        → StandsIn p w limit node (with_edge now e) (with_node p.eq nodes e.to) place next (text ++ edge_text w p.eq place nodes e)
    stands_passed e next le none some = record {
      turns = s.turns;
      met = s.met;
      item = s.item;
      up_to = s.up_to;
      of_node = s.of_node;
      placed = s.placed;
      of_nodes = nodes_with_edge e;
      within = subst (λ n. n ≤ limit) (ap length (nodes_with_edge e) ∙ length-map (arrive_all p.eq s.item s.met (with_edge now e).edges) (λ x. x.node)) le;
      counted = count e next none some;
      written = text_with_edge e;
    }
      where
        count : (e : Edge N L) (next : ℕ) → (place ≡ 0 → next ≡ inner) → (0 < place → next ≡ inner + 1) → next ≡ inner_edges s.turns (with_edge now e)
        count e next none some = inner_edges-edge s.turns now e next (λ z. none (sym s.placed ∙ z) ∙ s.counted) (λ l. some (subst (λ k. 0 < k) s.placed l) ∙ ap (λ n. n + 1) s.counted)

    -- the turn is over
    pub stands_over : p.HasTurn node now → StandsBefore p w limit nodes (place + 1) inner (text ++ stuck_text w p.eq place now.edges)
    stands_over turn = record {
      turns = s.turns ++ now ∷ [];
      met = arrive_all p.eq s.item s.met now.edges;
      explores = Explores-push p (at_first p.root) 0 s.turns s.met s.item now s.up_to.explores
          (subst (λ k. slice_get s.met k ≡ Some s.item) (omega arith) s.up_to.next) (subst (λ n. p.HasTurn n now) (sym s.of_node) turn);
      placed = length-append s.turns (now ∷ []) ∙ ap (λ k. k + 1) s.placed;
      of_nodes = s.of_nodes;
      within = s.within;
      counted = s.counted ∙ sym (inner_edges-push s.turns now);
      written = written;
    }
      where
        old : List ℕ
        old = turns_text w p.eq 0 (p.root ∷ []) s.turns

        written : text ++ stuck_text w p.eq place now.edges ≡ w.head ++ turns_text w p.eq 0 (p.root ∷ []) (s.turns ++ now ∷ [])
        written =
            let begun = begun_text w p.eq (length s.turns) (nodes_of s.met) now in
            let end = λ (k : ℕ). begun_text w p.eq k (nodes_of s.met) now ++ stuck_text w p.eq k now.edges in
            let pushed : turns_text w p.eq 0 (p.root ∷ []) (s.turns ++ now ∷ []) ≡ old ++ end (0 + length s.turns) = turns_text-push p w (at_first p.root) 0 s.turns s.met now s.up_to.explores in
            let shifted : end (0 + length s.turns) ≡ end (length s.turns) = ap end (omega arith) in
            ap (λ t. t ++ stuck_text w p.eq place now.edges) s.written
            ∙ append_assoc (w.head ++ old) begun (stuck_text w p.eq place now.edges)
            ∙ ap (λ k. (w.head ++ old) ++ (begun ++ stuck_text w p.eq k now.edges)) (sym s.placed)
            ∙ append_assoc w.head old (end (length s.turns))
            ∙ ap (λ t. w.head ++ (old ++ t)) (sym shifted)
            ∙ ap (λ t. w.head ++ t) (sym pushed)

    -- as many nodes are met as are asked for
    pub ends_paused : (e : Edge N L) (next : ℕ) → p.BeginsTurn node (with_edge now e) → length nodes ≡ limit → is_met p.eq (arrive_all p.eq s.item s.met now.edges) e.to ≡ false
        → (place ≡ 0 → next ≡ inner) → (0 < place → next ≡ inner + 1) → IsExplored p w limit paused ((text ++ edge_text w p.eq place nodes e) ++ w.last paused limit next)
    ends_paused e next begun full fresh none some =
        pauses s.turns s.met s.item now e s.up_to (subst (λ n. p.BeginsTurn n (with_edge now e)) (sym s.of_node) begun) (sym length_nodes ∙ full) fresh refl
        (ap (λ t. t ++ w.last paused limit next) (text_with_edge e) ∙ ap (λ k. text_up_to p w s.turns s.met (with_edge now e) ++ w.last paused limit k)
        (inner_edges-edge s.turns now e next (λ z. none (sym s.placed ∙ z) ∙ s.counted)
        (λ l. some (subst (λ k. 0 < k) s.placed l) ∙ ap (λ n. n + 1) s.counted)))

    -- the search for an edge breaks off
    pub ends_broken : (at : List ℕ) → p.BreaksTurn node now at → IsExplored p w limit (broken at) (text ++ w.last (broken at) (length nodes - 1) inner)
    ends_broken at break =
        breaks s.turns s.met s.item now at s.up_to (subst (λ n. p.BreaksTurn n now at) (sym s.of_node) break) s.within refl
        (ap (λ t. t ++ w.last (broken at) (length nodes - 1) inner) s.written ∙ ap (λ k. text_up_to p w s.turns s.met now ++ w.last (broken at) (k - 1) inner) length_nodes
        ∙ ap (λ k. text_up_to p w s.turns s.met now ++ w.last (broken at) (length (arrive_all p.eq s.item s.met now.edges) - 1) k) s.counted)

    -- what is written so far
    pub begins_in : p.BeginsTurn node now ⊎ (now ≡ no_turn) → IsPartlyExplored p w limit text
    begins_in begun = record { turns = s.turns; met = s.met; item = s.item; now = now; up_to = s.up_to; begins = by begun; few = few; within = within; written = s.written }
      where
        few : length s.met ≤ limit
        few = let l = s.within in let m = longer-arrive_all p.eq s.item s.met now.edges in omega (arith, l, m)

        within : (es : List (Edge N L)) (e : Edge N L) → now.edges ≡ es ++ e ∷ [] → length (arrive_all p.eq s.item s.met es) ≤ limit
        within es e is =
            let l = s.within in
            let m = longer-more p.eq s.item s.met es (e ∷ []) in
            let k = ap (λ xs. length (arrive_all p.eq s.item s.met xs)) is in
            omega (arith, l, m, k)

        by : p.BeginsTurn node now ⊎ (now ≡ no_turn) → p.BeginsTurn s.item.node now ⊎ (now ≡ no_turn)
        by (inl b) = inl (subst (λ n. p.BeginsTurn n now) (sym s.of_node) b)
        by (inr n) = inr n

    -- the same with one more edge
    pub begins_with : (e : Edge N L) → p.BeginsTurn node (with_edge now e) → IsPartlyExplored p w limit (text ++ edge_text w p.eq place nodes e)
    begins_with e begun = record {
      turns = s.turns;
      met = s.met;
      item = s.item;
      now = with_edge now e;
      up_to = s.up_to;
      begins = inl (subst (λ n. p.BeginsTurn n (with_edge now e)) (sym s.of_node) begun);
      few = (let l = s.within in let m = longer-arrive_all p.eq s.item s.met now.edges in omega (arith, l, m));
      within = within;
      written = text_with_edge e;
    }
      where
        within : (es : List (Edge N L)) (d : Edge N L) → now.edges ++ e ∷ [] ≡ es ++ d ∷ [] → length (arrive_all p.eq s.item s.met es) ≤ limit
        within es d is = subst (λ xs. length (arrive_all p.eq s.item s.met xs) ≤ limit) (same_from_push now.edges es e d is).0 s.within

    -- no more nodes are met than the limit has
    pub few_nodes : length nodes ≤ limit
    few_nodes = let l = s.within in let n = length_nodes in omega (arith, l, n)

    -- what the nodes don't have is not met
    pub is_new : (b : N) → list_any (p.eq b) nodes ≡ false → is_met p.eq (arrive_all p.eq s.item s.met now.edges) b ≡ false
    is_new b h = ap (λ ns. list_any (p.eq b) ns) (sym s.of_nodes) ∙ h

    -- the node is the one at the place
    pub node_at : slice_get nodes place ≡ Some node
    node_at = subst (λ n. slice_get nodes place ≡ Some n) s.of_node (subst (λ ns. slice_get ns place ≡ Some s.item.node) (sym s.of_nodes)
        (at_map (λ (x : Met N L). x.node) (arrive_all p.eq s.item s.met now.edges) place s.item
        (subst (λ k. slice_get (arrive_all p.eq s.item s.met now.edges) k ≡ Some s.item) s.placed
        (at-arrive_all p.eq s.item s.met now.edges (length s.turns) s.item s.up_to.next))))

    pub place_within : place < length nodes
    place_within = slice_get_within nodes place node node_at

  -- before a turn: what is written so far
  pub begins_before : (nodes : List N) (place inner : ℕ) (text : List ℕ) (b : N) → StandsBefore p w limit nodes place inner text → slice_get nodes place ≡ Some b → IsPartlyExplored p w limit text
  begins_before nodes place inner text b s at =
      subst (IsPartlyExplored p w limit) (append-nil text) (begins_in b no_turn nodes place inner (text ++ []) (stands_begun nodes place inner text b false s at) (inr refl))

  -- each node has had its turn
  pub ends_ended : (nodes : List N) (place inner : ℕ) (text : List ℕ) → StandsBefore p w limit nodes place inner text → length nodes ≤ place → place ≤ length nodes
      → IsExplored p w limit ended (text ++ w.last ended (length nodes - 1) inner)
  ends_ended nodes place inner text s all more =
      ends s.turns s.met (record { explores = s.explores; each = (let t = s.placed in omega (arith, t, all, more, lengths)) }) s.within refl
      (ap (λ t. t ++ w.last ended (length nodes - 1) inner) (s.written ∙ sym (append-nil (w.head ++ turns_text w p.eq 0 (p.root ∷ []) s.turns)))
      ∙ ap (λ k. text_up_to p w s.turns s.met no_turn ++ w.last ended (k - 1) inner) lengths
      ∙ ap (λ k. text_up_to p w s.turns s.met no_turn ++ w.last ended (length s.met - 1) k) s.counted)
    where
      lengths : length nodes ≡ length s.met
      lengths = ap length s.of_nodes ∙ length-map s.met (λ x. x.node)
