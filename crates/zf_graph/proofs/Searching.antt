-- How a search goes on, and how it ends.
use Rattle.std.proofs.lemmas.List.{length-append}
use Rattle.zf_graph.proofs.Prelude.{◌++◌, ◌+◌, ◌<◌, ◌∙◌, ◌∷◌, ◌≡◌, ◌≤◌, [], ap, arith, arrive_all, at_first, beyond, Bool, Edge, Explored, Explores, false, inr, is_met, length, List, Met, nodes_of, refl, slice_get, slice_get_within, Some, subst, sym, true, Turn, with_edge, ℕ, cond-true, ◌-◌, AreOthers, doubts, finds, found, inner_edges, IsSearched, misses, missing, open_ended, Result, SeeksBefore, SeeksIn, Sought, untold, way_text, Words, breaks, pauses}
use Rattle.zf_graph.proofs.Deciding.{new_behind}
use Rattle.zf_graph.proofs.Growing.{at-arrive_all}
use Rattle.zf_graph.proofs.SomeSearch.{others-push, others_first}
use Rattle.zf_graph.proofs.Stages.{inner_edges-edge, inner_edges-none, inner_edges-push}
use Rattle.zf_graph.proofs.Writing.{arrive_all-push, Explores-push}

module _ {N L : Type 0} (p : Explored N L) (s : Sought N) (limit : ℕ) where
  -- at first
  pub seeks_first : 1 ≤ limit → SeeksBefore p s limit (at_first p.root) 0 0
  seeks_first some = record { turns = []; explores = refl; placed = refl; few = some; others = others_first p s; counted = refl }

  module _ (met : List (Met N L)) (place inner : ℕ) (k : SeeksBefore p s limit met place inner) where
    -- a turn begins
    pub seeks_begun : (x : Met N L) (stray : Bool) → slice_get met place ≡ Some x → SeeksIn p s limit x.node (record { stray = stray; edges = [] }) met place inner
    seeks_begun x stray at = record {
      turns = k.turns;
      before = met;
      item = x;
      up_to = record { explores = k.explores; next = subst (λ n. slice_get met n ≡ Some x) (sym k.placed) at };
      of_node = refl;
      placed = k.placed;
      of_met = refl;
      few = k.few;
      others = k.others;
      counted = k.counted ∙ inner_edges-none k.turns stray;
    }

  module _ (node : N) (now : Turn N L) (met : List (Met N L)) (place inner : ℕ) (k : SeeksIn p s limit node now met place inner) where
    -- the count with one more edge
    module _ (e : Edge N L) (next : ℕ) (none : place ≡ 0 → next ≡ inner) (some : 0 < place → next ≡ inner + 1) where
      pub count : next ≡ inner_edges k.turns (with_edge now e)
      count = inner_edges-edge k.turns now e next (λ z. none (sym k.placed ∙ z) ∙ k.counted) (λ l. some (subst (λ n. 0 < n) k.placed l) ∙ ap (λ n. n + 1) k.counted)

      -- an edge to a node that is met
      pub seeks_known : is_met p.eq met e.to ≡ true → SeeksIn p s limit node (with_edge now e) met place next
      seeks_known known = record {
        turns = k.turns;
        before = k.before;
        item = k.item;
        up_to = k.up_to;
        of_node = k.of_node;
        placed = k.placed;
        of_met = same;
        few = k.few;
        others = k.others;
        counted = count;
      }
        where
          same : met ≡ arrive_all p.eq k.item k.before (now.edges ++ e ∷ [])
          same =
              k.of_met
              ∙ sym (cond-true (is_met p.eq (arrive_all p.eq k.item k.before now.edges) e.to) (arrive_all p.eq k.item k.before now.edges)
              (arrive_all p.eq k.item k.before now.edges ++ beyond k.item e ∷ [])
              (ap (λ m. is_met p.eq m e.to) (sym k.of_met) ∙ known))
              ∙ sym (arrive_all-push p.eq k.item k.before now.edges e)

      -- an edge to a new node
      module _ (fresh : is_met p.eq met e.to ≡ false) where
        pub fresh_there : is_met p.eq (arrive_all p.eq k.item k.before now.edges) e.to ≡ false
        fresh_there = ap (λ m. is_met p.eq m e.to) (sym k.of_met) ∙ fresh

        pub met_with_new : met ++ beyond k.item e ∷ [] ≡ arrive_all p.eq k.item k.before (now.edges ++ e ∷ [])
        met_with_new = ap (λ m. m ++ beyond k.item e ∷ []) k.of_met ∙ sym (new_behind p.eq k.item k.before now.edges e fresh_there)

        -- it is another, and fewer are met than are asked for
        pub seeks_new : s.IsOther e.to → length met < limit → SeeksIn p s limit node (with_edge now e) (met ++ beyond k.item e ∷ []) place next
        seeks_new other room = record {
          turns = k.turns;
          before = k.before;
          item = k.item;
          up_to = k.up_to;
          of_node = k.of_node;
          placed = k.placed;
          of_met = met_with_new;
          few = (let l = length-append met (beyond k.item e ∷ []) in omega (arith, l, room));
          others = others-push p s met (beyond k.item e) k.others (inr other);
          counted = count;
        }

    -- the turn is over
    pub seeks_over : p.HasTurn node now → SeeksBefore p s limit met (place + 1) inner
    seeks_over turn = record {
      turns = k.turns ++ now ∷ [];
      explores = subst (λ m. Explores p (at_first p.root) 0 (k.turns ++ now ∷ []) m) (sym k.of_met)
          (Explores-push p (at_first p.root) 0 k.turns k.before k.item now k.up_to.explores
          (subst (λ n. slice_get k.before n ≡ Some k.item) (omega arith) k.up_to.next) (subst (λ n. p.HasTurn n now) (sym k.of_node) turn));
      placed = length-append k.turns (now ∷ []) ∙ ap (λ n. n + 1) k.placed;
      few = k.few;
      others = k.others;
      counted = k.counted ∙ sym (inner_edges-push k.turns now);
    }

    -- the node is the one at the place
    pub item_at : slice_get met place ≡ Some k.item
    item_at = subst (λ m. slice_get m place ≡ Some k.item) (sym k.of_met)
        (subst (λ n. slice_get (arrive_all p.eq k.item k.before now.edges) n ≡ Some k.item) k.placed
        (at-arrive_all p.eq k.item k.before now.edges (length k.turns) k.item k.up_to.next))

    pub place_before : place < length met
    place_before = slice_get_within met place k.item item_at

module _ {N L : Type 0} (p : Explored N L) (s : Sought N) (w : Words N L) (last : Result → (nodes edges : ℕ) → List ℕ) (limit : ℕ) where
  module _ (met : List (Met N L)) (place inner : ℕ) (k : SeeksBefore p s limit met place inner) where
    -- each node has had its turn
    pub seeks_missing : length met ≤ place → place ≤ length met → IsSearched p s w last limit missing (w.head ++ last missing (length met - 1) inner)
    seeks_missing all more =
        misses k.turns met (record { explores = k.explores; each = (let t = k.placed in omega (arith, t, all, more)) }) k.few k.others refl
        (ap (λ n. w.head ++ last missing (length met - 1) n) k.counted)

  module _ (node : N) (now : Turn N L) (met : List (Met N L)) (place inner : ℕ) (k : SeeksIn p s limit node now met place inner) where
    -- the search for an edge breaks off
    pub seeks_broken : (at : List ℕ) → p.BreaksTurn node now at → IsSearched p s w last limit (untold at) (w.head ++ last (untold at) (length met - 1) inner)
    seeks_broken at break =
        breaks k.turns k.before k.item now at k.up_to (subst (λ n. p.BreaksTurn n now at) (sym k.of_node) break) (subst (λ m. length m ≤ limit) k.of_met k.few)
        (subst (AreOthers p s) k.of_met k.others) refl
        (ap (λ m. w.head ++ last (untold at) (length m - 1) inner) k.of_met ∙ ap (λ n. w.head ++ last (untold at) (length (arrive_all p.eq k.item k.before now.edges) - 1) n) k.counted)

    module _ (e : Edge N L) (next : ℕ) (none : place ≡ 0 → next ≡ inner) (some : 0 < place → next ≡ inner + 1) (fresh : is_met p.eq met e.to ≡ false) where
      module _ (begun : p.BeginsTurn node (with_edge now e)) where
        there : p.BeginsTurn k.item.node (with_edge now e)
        there = subst (λ n. p.BeginsTurn n (with_edge now e)) (sym k.of_node) begun

        -- it is sought
        pub seeks_found : s.IsSought e.to → IsSearched p s w last limit found
            ((w.head ++ way_text w p.eq (nodes_of (met ++ beyond k.item e ∷ [])) p.root (k.item.way ++ e ∷ [])) ++ last found (length met) next)
        seeks_found sought =
            finds k.turns k.before k.item now e k.up_to there (subst (λ m. length m ≤ limit) k.of_met k.few)
            (fresh_there p s limit node now met place inner k e next none some fresh) (subst (AreOthers p s) k.of_met k.others) sought refl
            (ap (λ m. (w.head ++ way_text w p.eq (nodes_of m) p.root (k.item.way ++ e ∷ [])) ++ last found (length met) next) (met_with_new p s limit node now met place inner k e next none some fresh)
            ∙ ap (λ m. (w.head ++ way_text w p.eq (nodes_of (arrive_all p.eq k.item k.before (now.edges ++ e ∷ []))) p.root (k.item.way ++ e ∷ [])) ++ last found (length m) next) k.of_met
            ∙ ap (λ n. (w.head ++ way_text w p.eq (nodes_of (arrive_all p.eq k.item k.before (now.edges ++ e ∷ []))) p.root (k.item.way ++ e ∷ []))
            ++ last found (length (arrive_all p.eq k.item k.before now.edges)) n) (count p s limit node now met place inner k e next none some))

        -- it can't be decided
        pub seeks_untold : (at : List ℕ) → s.IsUntold e.to at → IsSearched p s w last limit (untold at) (w.head ++ last (untold at) (length met) next)
        seeks_untold at doubt =
            doubts k.turns k.before k.item now e at k.up_to there (subst (λ m. length m ≤ limit) k.of_met k.few)
            (fresh_there p s limit node now met place inner k e next none some fresh) (subst (AreOthers p s) k.of_met k.others) doubt refl
            (ap (λ m. w.head ++ last (untold at) (length m) next) k.of_met
            ∙ ap (λ n. w.head ++ last (untold at) (length (arrive_all p.eq k.item k.before now.edges)) n)
            (count p s limit node now met place inner k e next none some))

        -- it is another, and as many are met as are asked for
        pub seeks_full : s.IsOther e.to → length met ≡ limit → IsSearched p s w last limit open_ended (w.head ++ last open_ended (length met) next)
        seeks_full other full =
            pauses k.turns k.before k.item now e k.up_to there (ap (λ m. length m) (sym k.of_met) ∙ full)
            (fresh_there p s limit node now met place inner k e next none some fresh)
            (subst (AreOthers p s) (met_with_new p s limit node now met place inner k e next none some fresh)
            (others-push p s met (beyond k.item e) k.others (inr other))) refl
            (ap (λ n. w.head ++ last open_ended n next) full ∙ ap (λ n. w.head ++ last open_ended limit n) (count p s limit node now met place inner k e next none some))
