-- Two searches of one graph are one.
use Rattle.zf_graph.proofs.Prelude.{◌++◌, ◌+◌, ◌∙◌, ◌∷◌, ◌≡◌, ◌⊎◌, [], ap, arith, false, inl, inr, length, List, Some, subst, sym, ℕ, slice_get, slice_get_within, Edge, Turn, Explored, Met, IsMet, nodes_of, at_first, is_met, beyond, arrive_all, Explores, with_edge, append_assoc, append-nil, same_from_push, ◌-◌, doubts, finds, found, inner_edges, IsDecisive, IsFrontTurn, IsSearched, IsSearchedInOneWay, IsSure, misses, missing, no_turn, open_ended, Result, Sought, untold, way_text, Words, breaks, pauses}
use Rattle.zf_graph.proofs.Places.{one_at}
use Rattle.zf_graph.proofs.Growing.{at-Explores, longer-Explores}
use Rattle.zf_graph.proofs.Deciding.{at-more, Decides, decides_once, IsClear, IsClear-before, is_full, is_sought, is_untold, new_is_met, none_behind}
use Rattle.zf_graph.proofs.OneWay.{compare, IsCompared, IsLonger, last_of, longer, same, shorter}

module _ {N L : Type 0} (p : Explored N L) (s : Sought N) (w : Words N L) (last : Result → (nodes edges : ℕ) → List ℕ) (limit : ℕ) where
  -- what is written before the last words of a search that ends with this edge
  shown : Result → (nodes : List N) → (way : List (Edge N L)) → List ℕ
  shown found nodes way = w.head ++ way_text w p.eq nodes p.root way
  shown missing nodes way = w.head
  shown open_ended nodes way = w.head
  shown (untold at) nodes way = w.head

  abbrev text_at : Result → List (Turn N L) → List (Met N L) → Met N L → Turn N L → Edge N L → List ℕ
  text_at r turns met a now e = shown r (nodes_of (arrive_all p.eq a met (now.edges ++ e ∷ []))) (beyond a e).way
      ++ last r (length (arrive_all p.eq a met now.edges)) (inner_edges turns (with_edge now e))

  -- how a search with these turns ends
  data Tail (turns : List (Turn N L)) (met : List (Met N L)) (result : Result) (text : List ℕ) : Type 0 where
    all : length turns ≡ length met → result ≡ missing → text ≡ w.head ++ last missing (length met - 1) (inner_edges turns no_turn) → Tail turns met result text
    out : (a : Met N L) (now : Turn N L) (stop : List ℕ) → slice_get met (length turns) ≡ Some a → p.BreaksTurn a.node now stop → IsClear p s limit (arrive_all p.eq a met now.edges)
        → result ≡ untold stop → text ≡ w.head ++ last (untold stop) (length (arrive_all p.eq a met now.edges) - 1) (inner_edges turns now) → Tail turns met result text
    at_edge : (a : Met N L) (now : Turn N L) (e : Edge N L) → slice_get met (length turns) ≡ Some a → p.BeginsTurn a.node (with_edge now e) → is_met p.eq (arrive_all p.eq a met now.edges) e.to ≡ false
        → IsClear p s limit (arrive_all p.eq a met now.edges) → Decides p s limit (arrive_all p.eq a met now.edges) e.to result → text ≡ text_at result turns met a now e → Tail turns met result text

  record Stop (result : Result) (text : List ℕ) : Type 0 where
    pub turns : List (Turn N L)
    pub met : List (Met N L)
    pub explores : Explores p (at_first p.root) 0 turns met
    pub clear : IsClear p s limit met
    pub tail : Tail turns met result text

  stop_of : (result : Result) (text : List ℕ) → IsSearched p s w last limit result text → Stop result text
  unfolding shown
  stop_of result text (finds turns met a now e h begun few fresh others sought is written) =
      let clear : IsClear p s limit (arrive_all p.eq a met now.edges) = record { few = few; others = others } in
      record {
        turns = turns;
        met = met;
        explores = h.explores;
        clear = IsClear-before p s limit a met now.edges clear;
        tail = at_edge a now e h.next begun fresh clear (is_sought sought is) (subst (λ r. text ≡ text_at r turns met a now e) (sym is) written);
      }
  stop_of result text (misses turns met h few others is written) = record
      { turns = turns; met = met; explores = h.explores; clear = record { few = few; others = others }; tail = all h.each is written }
  stop_of result text (pauses turns met a now e h begun full fresh others is written) =
      let whole = λ (b : N) (m : IsMet (arrive_all p.eq a met (now.edges ++ e ∷ [])) b). others b m in
      let clear : IsClear p s limit (arrive_all p.eq a met now.edges) = record {
        few = omega (arith, full);
        others = λ b m. whole b (record { place = m.place; item = m.item; stands = at-more p.eq a met now.edges (e ∷ []) m.place m.item m.stands; node = m.node });
      } in
      record {
        turns = turns;
        met = met;
        explores = h.explores;
        clear = IsClear-before p s limit a met now.edges clear;
        tail = at_edge a now e h.next begun fresh clear (is_full (whole e.to (new_is_met p.eq a met now.edges e fresh)) full is)
            (written ∙ ap (λ n. w.head ++ last open_ended n (inner_edges turns (with_edge now e))) (sym full) ∙ ap (λ r. text_at r turns met a now e) (sym is));
      }
  stop_of result text (breaks turns met a now stop h break few others is written) =
      let clear : IsClear p s limit (arrive_all p.eq a met now.edges) = record { few = few; others = others } in
      record { turns = turns; met = met; explores = h.explores; clear = IsClear-before p s limit a met now.edges clear; tail = out a now stop h.next break clear is written }
  stop_of result text (doubts turns met a now e at h begun few fresh others doubt is written) =
      let clear : IsClear p s limit (arrive_all p.eq a met now.edges) = record { few = few; others = others } in
      record {
        turns = turns;
        met = met;
        explores = h.explores;
        clear = IsClear-before p s limit a met now.edges clear;
        tail = at_edge a now e h.next begun fresh clear (is_untold at doubt is) (written ∙ ap (λ r. text_at r turns met a now e) (sym is));
      }

  -- ---- the same turns

  module _ (sure : IsSure p) (decisive : IsDecisive p s) (turns : List (Turn N L)) (met : List (Met N L)) where
    open_after : (a : Met N L) → slice_get met (length turns) ≡ Some a → length turns ≡ length met → ⊥
    open_after a at each = let l = slice_get_within met (length turns) a at in omega (arith, l, each)

    edge_out : (a b : Met N L) (now other : Turn N L) (e : Edge N L) (r : Result) (stop : List ℕ) → slice_get met (length turns) ≡ Some a
        → slice_get met (length turns) ≡ Some b → p.BeginsTurn a.node (with_edge now e)
        → is_met p.eq (arrive_all p.eq a met now.edges) e.to ≡ false → Decides p s limit (arrive_all p.eq a met now.edges) e.to r
        → p.BreaksTurn b.node other stop → IsClear p s limit (arrive_all p.eq b met other.edges) → ⊥
    edge_out a b now other e r stop at there begun fresh d break clear =
        let item : a ≡ b = one_at met (length turns) a b at there in
        let f = sure.begins_broken a.node (with_edge now e) other stop begun (subst (λ x. p.BreaksTurn x.node other stop) (sym item) break) in
        none_behind p s limit decisive a met now.edges e f.more other.edges r fresh d f.edges (subst (λ x. IsClear p s limit (arrive_all p.eq x met other.edges)) (sym item) clear)

    -- of two turns that end so, one of which begins the other, both are one
    one_edge : (a : Met N L) (now other : Turn N L) (e d : Edge N L) (r : Result) → is_met p.eq (arrive_all p.eq a met now.edges) e.to ≡ false
        → Decides p s limit (arrive_all p.eq a met now.edges) e.to r
        → IsClear p s limit (arrive_all p.eq a met other.edges) → IsFrontTurn (with_edge now e) (with_edge other d) → (now ≡ other) × (e ≡ d)
    one_edge a now other e d r fresh dec clear f = go f.more f.edges
      where
        go : (more : List (Edge N L)) → other.edges ++ d ∷ [] ≡ (now.edges ++ e ∷ []) ++ more → (now ≡ other) × (e ≡ d)
        go [] is =
            let k = same_from_push now.edges other.edges e d (sym (is ∙ append-nil (now.edges ++ e ∷ []))) in
            ((λ i. record { stray = f.stray i; edges = k.0 i }), k.1)
        go (m ∷ ms) is =
            let l = last_of m ms in
            let parted = same_from_push other.edges ((now.edges ++ e ∷ []) ++ l.0) d l.1 (is ∙ ap (λ x. (now.edges ++ e ∷ []) ++ x) l.2 ∙ sym (append_assoc (now.edges ++ e ∷ []) l.0 (l.1 ∷ []))) in
            absurd (none_behind p s limit decisive a met now.edges e l.0 other.edges r fresh dec parted.0 clear)

    either_edge : (a : Met N L) (now other : Turn N L) (e d : Edge N L) (q r : Result) → is_met p.eq (arrive_all p.eq a met now.edges) e.to ≡ false
        → is_met p.eq (arrive_all p.eq a met other.edges) d.to ≡ false
        → Decides p s limit (arrive_all p.eq a met now.edges) e.to q → Decides p s limit (arrive_all p.eq a met other.edges) d.to r
        → IsClear p s limit (arrive_all p.eq a met now.edges) → IsClear p s limit (arrive_all p.eq a met other.edges)
        → IsFrontTurn (with_edge now e) (with_edge other d) ⊎ IsFrontTurn (with_edge other d) (with_edge now e) → (now ≡ other) × (e ≡ d)
    either_edge a now other e d q r fresh new one two c k (inl f) = one_edge a now other e d q fresh one k f
    either_edge a now other e d q r fresh new one two c k (inr f) = let same' = one_edge a other now d e r new two c f in (sym same'.0, sym same'.1)

    same_end : (a : Met N L) (now other : Turn N L) (e d : Edge N L) (q r : Result) (t u : List ℕ) → (now ≡ other) × (e ≡ d)
        → Decides p s limit (arrive_all p.eq a met now.edges) e.to q → Decides p s limit (arrive_all p.eq a met other.edges) d.to r
        → t ≡ text_at q turns met a now e → u ≡ text_at r turns met a other d → (q ≡ r) × (t ≡ u)
    same_end a now other e d q r t u is one two written shown' =
        let one' = subst (λ x. Decides p s limit (arrive_all p.eq a met x.edges) d.to q) is.0 (subst (λ x. Decides p s limit (arrive_all p.eq a met now.edges) x.to q) is.1 one) in
        let same' = decides_once p s limit decisive (arrive_all p.eq a met other.edges) d.to q r one' two in (
          same',
          written ∙ ap (λ x. text_at q turns met a x e) is.0 ∙ ap (λ x. text_at q turns met a other x) is.1 ∙ ap (λ x. text_at x turns met a other d) same' ∙ sym shown',
        )

    one_tail : (q r : Result) (t u : List ℕ) → Tail turns met q t → Tail turns met r u → (q ≡ r) × (t ≡ u)
    one_tail q r t u (all each is text) (all each2 is2 text2) = (is ∙ sym is2, text ∙ sym text2)
    one_tail q r t u (all each is text) (out b other stop2 there break2 clear2 is2 text2) = absurd (open_after b there each)
    one_tail q r t u (all each is text) (at_edge b other d there begun2 fresh2 clear2 dec2 text2) = absurd (open_after b there each)
    one_tail q r t u (out a now stop at break clear is text) (all each2 is2 text2) = absurd (open_after a at each2)
    one_tail q r t u (out a now stop at break clear is text) (out b other stop2 there break2 clear2 is2 text2) =
        let item : b ≡ a = one_at met (length turns) b a there at in
        let one = sure.one_break a.node now other stop stop2 break (subst (λ x. p.BreaksTurn x.node other stop2) item break2) in (
          is ∙ ap untold one.1 ∙ sym is2,
          text
              ∙ ap (λ x. w.head ++ last (untold stop) (length (arrive_all p.eq a met x.edges) - 1) (inner_edges turns x)) one.0
              ∙ ap (λ x. w.head ++ last (untold x) (length (arrive_all p.eq a met other.edges) - 1) (inner_edges turns other)) one.1
              ∙ ap (λ x. w.head ++ last (untold stop2) (length (arrive_all p.eq x met other.edges) - 1) (inner_edges turns other)) (sym item)
              ∙ sym text2,
        )
    one_tail q r t u (out a now stop at break clear is text) (at_edge b other d there begun2 fresh2 clear2 dec2 text2) = absurd
        (edge_out b a other now d r stop there at begun2 fresh2 dec2 break clear)
    one_tail q r t u (at_edge a now e at begun fresh clear dec text) (all each2 is2 text2) = absurd (open_after a at each2)
    one_tail q r t u (at_edge a now e at begun fresh clear dec text) (out b other stop2 there break2 clear2 is2 text2) = absurd
        (edge_out a b now other e q stop2 at there begun fresh dec break2 clear2)
    one_tail q r t u (at_edge a now e at begun fresh clear dec text) (at_edge b other d there begun2 fresh2 clear2 dec2 text2) =
        let item : b ≡ a = one_at met (length turns) b a there at in
        let dec3 = subst (λ x. Decides p s limit (arrive_all p.eq x met other.edges) d.to r) item dec2 in
        let one = either_edge a now other e d q r fresh (subst (λ x. is_met p.eq (arrive_all p.eq x met other.edges) d.to ≡ false) item fresh2) dec dec3 clear
        (subst (λ x. IsClear p s limit (arrive_all p.eq x met other.edges)) item clear2)
        (sure.begins_both a.node (with_edge now e) (with_edge other d) begun (subst (λ x. p.BeginsTurn x.node (with_edge other d)) item begun2)) in
        same_end a now other e d q r t u one dec dec3 text (text2 ∙ ap (λ x. text_at r turns met x other d) item)

    -- where one ends, no other one goes on
    not_longer : (r : Result) (t : List ℕ) (us : List (Turn N L)) (after : List (Met N L)) → Tail turns met r t → IsLonger p 0 turns us met after → IsClear p s limit after → ⊥
    not_longer r t us after (all each is text) l clear = open_after l.item (subst (λ k. slice_get met k ≡ Some l.item) (omega arith) l.at) each
    not_longer r t us after (out a now stop at break clear2 is text) l clear =
        let item : l.item ≡ a = one_at met (length turns) l.item a (subst (λ k. slice_get met k ≡ Some l.item) (omega arith) l.at) at in
        sure.not_both a.node l.turn now stop (subst (λ x. p.HasTurn x.node l.turn) item l.has) break
    not_longer r t us after (at_edge a now e at begun fresh clear2 dec text) l clear =
        let item : l.item ≡ a = one_at met (length turns) l.item a (subst (λ k. slice_get met k ≡ Some l.item) (omega arith) l.at) at in
        let f = sure.begins_whole a.node (with_edge now e) l.turn begun (subst (λ x. p.HasTurn x.node l.turn) item l.has) in
        let ahead = arrive_all p.eq l.item met l.turn.edges in
        let more = longer-Explores p ahead ((0 + length turns) + 1) l.rest after l.explores in
        let clear3 : IsClear p s limit ahead = record {
          few = (let c = clear.few in omega (arith, c, more));
          others = λ b m. clear.others b (record {
            place = m.place;
            item = m.item;
            stands = at-Explores p ahead
                ((0 + length turns) + 1) l.rest after l.explores m.place m.item m.stands;
            node = m.node;
          });
        } in
        none_behind p s limit decisive a met now.edges e f.more l.turn.edges r fresh dec f.edges (subst (λ x. IsClear p s limit (arrive_all p.eq x met l.turn.edges)) item clear3)

  module _ (sure : IsSure p) (decisive : IsDecisive p s) where
    one_search_by : (q r : Result) (t u : List ℕ) (g : Stop q t) (h : Stop r u) → IsCompared p 0 g.turns h.turns g.met h.met → (q ≡ r) × (t ≡ u)
    one_search_by q r t u g h (same ts ms) = one_tail sure decisive h.turns h.met q r t u (subst (λ xs. Tail xs h.met q t) ts (subst (λ m. Tail g.turns m q t) ms g.tail)) h.tail
    one_search_by q r t u g h (shorter l) = absurd (not_longer sure decisive g.turns g.met q t h.turns h.met g.tail l h.clear)
    one_search_by q r t u g h (longer l) = absurd (not_longer sure decisive h.turns h.met r u g.turns g.met h.tail l g.clear)

    pub one_search : IsSearchedInOneWay p s w last limit
    one_search q r t u x y =
        let g = stop_of q t x in
        let h = stop_of r u y in
        one_search_by q r t u g h (compare p sure (at_first p.root) 0 g.turns h.turns g.met h.met g.explores h.explores)
