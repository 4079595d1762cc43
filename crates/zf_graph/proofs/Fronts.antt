-- What is written of an exploration that stops early is the front of its text.
use Rattle.zf_graph.proofs.Prelude.{◌++◌, ◌+◌, ◌∙◌, ◌∷◌, ◌≡◌, ◌⊎◌, [], ap, arith, Bool, false, cond, inl, inr, length, List, refl, Some, subst, suc, sym, ℕ, slice_get, Edge, Turn, Explored, Met, is_met, nodes_of, at_first, arrive_all, Explores, with_edge, with_ends, with_node, append_assoc, append-nil, ◌-◌, begun_text, broken, edge_text, edges_text, Ending, inner_edges, IsExplored, IsFrontTurn, IsPartlyExplored, IsSure, no_turn, PartsAreFronts, paused, stuck_text, text_up_to, turns_text, Words}
use Rattle.zf_graph.proofs.Places.{one_at}
use Rattle.zf_graph.proofs.Writing.{nodes_of-arrive_all}
use Rattle.zf_graph.proofs.OneWay.{all, compare, full, IsCompared, IsLonger, last_of, longer, not_longer, one_way, open_after, out, same, shorter, Stop, stop_of, Tail, too_many}

-- the second text is the front of the first
abbrev IsTextFront : List ℕ → List ℕ → Type 0
IsTextFront whole first = (rest : List ℕ) × (whole ≡ first ++ rest)

further : (whole first more : List ℕ) → IsTextFront whole (first ++ more) → IsTextFront whole first
further whole first more f = (more ++ f.0, f.1 ∙ append_assoc first more f.0)

behind : (old whole first : List ℕ) → IsTextFront whole first → IsTextFront (old ++ whole) (old ++ first)
behind old whole first f = (f.0, ap (λ t. old ++ t) f.1 ∙ sym (append_assoc old first f.0))

before : (whole more first : List ℕ) → IsTextFront whole first → IsTextFront (whole ++ more) first
before whole more first f = (f.0 ++ more, ap (λ t. t ++ more) f.1 ∙ append_assoc first f.0 more)

module _ {N L : Type 0} where
  edges_text-append : (w : Words N L) (eq : N → N → Bool) (from : ℕ) (nodes : List N) (es more : List (Edge N L))
      → edges_text w eq from nodes (es ++ more) ≡ edges_text w eq from nodes es ++ edges_text w eq from (with_ends eq nodes es) more
  edges_text-append w eq from nodes [] more = refl
  edges_text-append w eq from nodes (e ∷ es) more =
      ap (λ t. edge_text w eq from nodes e ++ t) (edges_text-append w eq from (with_node eq nodes e.to) es more)
      ∙ sym (append_assoc (edge_text w eq from nodes e) (edges_text w eq from (with_node eq nodes e.to) es) (edges_text w eq from (with_ends eq (with_node eq nodes e.to) es) more))

  -- a turn begins with the text of its front
  begun_text-front : (w : Words N L) (eq : N → N → Bool) (from : ℕ) (nodes : List N) (t u : Turn N L) → IsFrontTurn t u → IsTextFront (begun_text w eq from nodes u) (begun_text w eq from nodes t)
  begun_text-front w eq from nodes t u f =
      let more = edges_text w eq from (with_ends eq nodes t.edges) f.more in (
        more,
        ap (λ b. cond b (w.stray from) [] ++ edges_text w eq from nodes u.edges) (sym f.stray)
            ∙ ap (λ es. cond t.stray (w.stray from) [] ++ edges_text w eq from nodes es) f.edges
            ∙ ap (λ x. cond t.stray (w.stray from) [] ++ x) (edges_text-append w eq from nodes t.edges f.more)
            ∙ sym (append_assoc (cond t.stray (w.stray from) []) (edges_text w eq from nodes t.edges) more),
      )

  turns_text-append : (p : Explored N L) (w : Words N L) (met : List (Met N L)) (place : ℕ) (ts us : List (Turn N L)) (after : List (Met N L)) → Explores p met place ts after
      → turns_text w p.eq place (nodes_of met) (ts ++ us) ≡ turns_text w p.eq place (nodes_of met) ts ++ turns_text w p.eq (place + length ts) (nodes_of after) us
  turns_text-append p w met place [] us after h = ap (λ m. turns_text w p.eq place (nodes_of m) us) (sym h) ∙ ap (λ k. turns_text w p.eq k (nodes_of after) us) (omega arith)
  turns_text-append p w met place (t ∷ ts) us after h =
      let rest = turns_text-append p w (arrive_all p.eq h.0 met t.edges) (place + 1) ts us after h.3 in
      let here = begun_text w p.eq place (nodes_of met) t ++ stuck_text w p.eq place t.edges in
      let later = λ (ns : List N). turns_text w p.eq (place + 1) ns ts in
      let end = λ (k : ℕ). turns_text w p.eq k (nodes_of after) us in
      let moved : turns_text w p.eq (place + 1) (with_ends p.eq (nodes_of met) t.edges) (ts ++ us) ≡ later (with_ends p.eq (nodes_of met) t.edges) ++ end ((place + 1) + length ts) =
      subst (λ ns. turns_text w p.eq (place + 1) ns (ts ++ us) ≡ later ns ++ end ((place + 1) + length ts)) (nodes_of-arrive_all p.eq h.0 met t.edges) rest in
      let shifted : end ((place + 1) + length ts) ≡ end (place + suc (length ts)) = ap end (omega arith) in
      ap (λ x. here ++ x) (moved ∙ ap (λ x. later (with_ends p.eq (nodes_of met) t.edges) ++ x) shifted)
      ∙ sym (append_assoc here (later (with_ends p.eq (nodes_of met) t.edges)) (end (place + suc (length ts))))

  module _ (p : Explored N L) (w : Words N L) (limit : ℕ) (sure : IsSure p) where
    -- what begins the turn of a node has the front of its text, or has none
    begun_front : (from : ℕ) (nodes : List N) (now u : Turn N L) → IsFrontTurn now u ⊎ (now ≡ no_turn) → IsTextFront (begun_text w p.eq from nodes u) (begun_text w p.eq from nodes now)
    begun_front from nodes now u (inl f) = begun_text-front w p.eq from nodes now u f
    begun_front from nodes now u (inr none) = (begun_text w p.eq from nodes u, ap (λ t. begun_text w p.eq from nodes t ++ begun_text w p.eq from nodes u) (sym none))

    module _ (first : List ℕ) (b : IsPartlyExplored p w limit first) where
      -- with the same turns before
      front_here : (u : Turn N L) (more : List ℕ) → IsFrontTurn b.now u ⊎ (b.now ≡ no_turn) → IsTextFront (text_up_to p w b.turns b.met u ++ more) first
      front_here u more f =
          subst (IsTextFront (text_up_to p w b.turns b.met u ++ more)) (sym b.written)
          (before (text_up_to p w b.turns b.met u) more (text_up_to p w b.turns b.met b.now)
          (behind (w.head ++ turns_text w p.eq 0 (p.root ∷ []) b.turns) (begun_text w p.eq (length b.turns) (nodes_of b.met) u) (begun_text w p.eq (length b.turns) (nodes_of b.met) b.now)
          (begun_front (length b.turns) (nodes_of b.met) b.now u f)))

      -- up to a full turn no more than it is begun
      front_of_full : (now : Turn N L) (e : Edge N L) → length (arrive_all p.eq b.item b.met now.edges) ≡ limit → is_met p.eq (arrive_all p.eq b.item b.met now.edges) e.to ≡ false
          → IsFrontTurn (with_edge now e) b.now → IsFrontTurn b.now (with_edge now e)
      front_of_full now e many fresh f = go f.more f.edges
        where
          go : (more : List (Edge N L)) → b.now.edges ≡ (now.edges ++ e ∷ []) ++ more → IsFrontTurn b.now (with_edge now e)
          go [] is = record { stray = sym f.stray; more = []; edges = sym (is ∙ append-nil (now.edges ++ e ∷ [])) ∙ sym (append-nil b.now.edges) }
          go (m ∷ ms) is =
              let r = last_of m ms in
              absurd (too_many p w limit sure b.item b.met now e r.0 ((now.edges ++ e ∷ []) ++ r.0) many fresh refl
              (b.within ((now.edges ++ e ∷ []) ++ r.0) r.1 (is ∙ ap (λ l. (now.edges ++ e ∷ []) ++ l) r.2 ∙ sym (append_assoc (now.edges ++ e ∷ []) r.0 (r.1 ∷ [])))))

      either_full : (now : Turn N L) (e : Edge N L) → length (arrive_all p.eq b.item b.met now.edges) ≡ limit → is_met p.eq (arrive_all p.eq b.item b.met now.edges) e.to ≡ false
          → IsFrontTurn b.now (with_edge now e) ⊎ IsFrontTurn (with_edge now e) b.now → IsFrontTurn b.now (with_edge now e)
      either_full now e many fresh (inl f) = f
      either_full now e many fresh (inr f) = front_of_full now e many fresh f

      front_full : (now : Turn N L) (e : Edge N L) → p.BeginsTurn b.item.node (with_edge now e) → length (arrive_all p.eq b.item b.met now.edges) ≡ limit
          → is_met p.eq (arrive_all p.eq b.item b.met now.edges) e.to ≡ false → p.BeginsTurn b.item.node b.now ⊎ (b.now ≡ no_turn) → IsFrontTurn b.now (with_edge now e) ⊎ (b.now ≡ no_turn)
      front_full now e begun many fresh (inl begins) = inl (either_full now e many fresh (sure.begins_both b.item.node b.now (with_edge now e) begins begun))
      front_full now e begun many fresh (inr none) = inr none

      front_out : (now : Turn N L) (stop : List ℕ) → p.BreaksTurn b.item.node now stop → p.BeginsTurn b.item.node b.now ⊎ (b.now ≡ no_turn) → IsFrontTurn b.now now ⊎ (b.now ≡ no_turn)
      front_out now stop break (inl begins) = inl (sure.begins_broken b.item.node b.now now stop begins break)
      front_out now stop break (inr none) = inr none

      front_turn : (u : Turn N L) → p.HasTurn b.item.node u → p.BeginsTurn b.item.node b.now ⊎ (b.now ≡ no_turn) → IsFrontTurn b.now u ⊎ (b.now ≡ no_turn)
      front_turn u turn (inl begins) = inl (sure.begins_whole b.item.node b.now u begins turn)
      front_turn u turn (inr none) = inr none

      front_tail : (e : Ending) (text : List ℕ) → Tail p w limit b.turns b.met e text → IsTextFront text first
      front_tail e text (all each is written) = absurd (open_after p w limit sure b.turns b.met b.item b.up_to.next each)
      front_tail e text (full a now d at begun many fresh is written) =
          let item : a ≡ b.item = one_at b.met (length b.turns) a b.item at b.up_to.next in
          subst (λ t. IsTextFront t first) (sym written)
          (front_here (with_edge now d) (w.last paused limit (inner_edges b.turns (with_edge now d)))
          (front_full now d (subst (λ x. p.BeginsTurn x.node (with_edge now d)) item begun) (subst (λ x. length (arrive_all p.eq x b.met now.edges) ≡ limit) item many)
          (subst (λ x. is_met p.eq (arrive_all p.eq x b.met now.edges) d.to ≡ false) item fresh) b.begins))
      front_tail e text (out a now stop at break few is written) =
          let item : a ≡ b.item = one_at b.met (length b.turns) a b.item at b.up_to.next in
          subst (λ t. IsTextFront t first) (sym written)
          (front_here now (w.last (broken stop) (length (arrive_all p.eq a b.met now.edges) - 1) (inner_edges b.turns now))
          (front_out now stop (subst (λ x. p.BreaksTurn x.node now stop) item break) b.begins))

      -- with further turns: the text of the turns before, and of the next one
      front_longer : (us : List (Turn N L)) (after : List (Met N L)) → IsLonger p 0 b.turns us b.met after → IsTextFront (w.head ++ turns_text w p.eq 0 (p.root ∷ []) us) first
      front_longer us after l =
          let old = turns_text w p.eq 0 (p.root ∷ []) b.turns in
          let end = λ (k : ℕ). turns_text w p.eq k (nodes_of b.met) (l.turn ∷ l.rest) in
          let item : l.item ≡ b.item = one_at b.met (length b.turns) l.item b.item (subst (λ k. slice_get b.met k ≡ Some l.item) (omega arith) l.at) b.up_to.next in
          let begun = begun_front (length b.turns) (nodes_of b.met) b.now l.turn (front_turn l.turn (subst (λ x. p.HasTurn x.node l.turn) item l.has) b.begins) in
          let shifted : end (0 + length b.turns) ≡ end (length b.turns) = ap end (omega arith) in
          let parted : w.head ++ turns_text w p.eq 0 (p.root ∷ []) us ≡ (w.head ++ old) ++ end (length b.turns) =
          ap (λ xs. w.head ++ turns_text w p.eq 0 (p.root ∷ []) xs) l.split
          ∙ ap (λ t. w.head ++ t) (turns_text-append p w (at_first p.root) 0 b.turns (l.turn ∷ l.rest) b.met b.up_to.explores ∙ ap (λ t. old ++ t) shifted)
          ∙ sym (append_assoc w.head old (end (length b.turns))) in
          let later = turns_text w p.eq (length b.turns + 1) (with_ends p.eq (nodes_of b.met) l.turn.edges) l.rest in
          subst (λ t. IsTextFront t first) (sym parted) (subst (IsTextFront ((w.head ++ old) ++ end (length b.turns))) (sym b.written)
          (behind (w.head ++ old) (end (length b.turns)) (begun_text w p.eq (length b.turns) (nodes_of b.met) b.now)
          (before (begun_text w p.eq (length b.turns) (nodes_of b.met) l.turn ++ stuck_text w p.eq (length b.turns) l.turn.edges) later (begun_text w p.eq (length b.turns) (nodes_of b.met) b.now)
          (before (begun_text w p.eq (length b.turns) (nodes_of b.met) l.turn) (stuck_text w p.eq (length b.turns) l.turn.edges) (begun_text w p.eq (length b.turns) (nodes_of b.met) b.now) begun))))

      -- the text of an end begins with that of its turns
      turns_first : (e : Ending) (text : List ℕ) (turns : List (Turn N L)) (met : List (Met N L)) → Tail p w limit turns met e text
          → IsTextFront text (w.head ++ turns_text w p.eq 0 (p.root ∷ []) turns)
      turns_first e text turns met (all each is written) = subst (λ t. IsTextFront t (w.head ++ turns_text w p.eq 0 (p.root ∷ []) turns)) (sym written)
          (before (text_up_to p w turns met no_turn) _ _ ([], refl))
      turns_first e text turns met (full a now d at begun many fresh is written) =
          subst (λ t. IsTextFront t (w.head ++ turns_text w p.eq 0 (p.root ∷ []) turns)) (sym written)
          (before (text_up_to p w turns met (with_edge now d)) _ _ (begun_text w p.eq (length turns) (nodes_of met) (with_edge now d), refl))
      turns_first e text turns met (out a now stop at break few is written) =
          subst (λ t. IsTextFront t (w.head ++ turns_text w p.eq 0 (p.root ∷ []) turns)) (sym written)
          (before (text_up_to p w turns met now) _ _ (begun_text w p.eq (length turns) (nodes_of met) now, refl))

      longer_front : (whole middle : List ℕ) → IsTextFront whole middle → IsTextFront middle first → IsTextFront whole first
      longer_front whole middle f h = (h.0 ++ f.0, f.1 ∙ ap (λ t. t ++ f.0) h.1 ∙ append_assoc first h.0 f.0)

      begun_is_front_by : (e : Ending) (text : List ℕ) (g : Stop p w limit e text) → IsCompared p 0 b.turns g.turns b.met g.met → IsTextFront text first
      begun_is_front_by e text g (same ts ms) = front_tail e text (subst (λ xs. Tail p w limit xs b.met e text) (sym ts) (subst (λ m. Tail p w limit g.turns m e text) (sym ms) g.tail))
      begun_is_front_by e text g (shorter l) = longer_front text (w.head ++ turns_text w p.eq 0 (p.root ∷ []) g.turns) (turns_first e text g.turns g.met g.tail) (front_longer g.turns g.met l)
      begun_is_front_by e text g (longer l) = absurd (not_longer p w limit sure g.turns g.met e text b.turns b.met g.tail l b.few)

    parts_are_fronts_by : (e : Ending) (part text : List ℕ) → (part ≡ []) ⊎ (IsPartlyExplored p w limit part ⊎ ((ending : Ending) × IsExplored p w limit ending part))
        → IsExplored p w limit e text → IsTextFront text part
    parts_are_fronts_by e part text (inl none) h = (text, ap (λ t. t ++ text) (sym none))
    parts_are_fronts_by e part text (inr (inl b)) h =
        let g = stop_of p w limit e text h in
        begun_is_front_by part b e text g (compare p sure (at_first p.root) 0 b.turns g.turns b.met g.met b.up_to.explores g.explores)
    parts_are_fronts_by e part text (inr (inr whole)) h = ([], sym (append-nil part ∙ (one_way p w limit sure whole.0 e part text whole.1 h).1))

    pub parts_are_fronts : PartsAreFronts p w limit
    parts_are_fronts e part text h written = parts_are_fronts_by e part text h written
