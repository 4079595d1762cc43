-- The text of an exploration, as it grows.
use Rattle.zf_graph.proofs.Prelude.{◌++◌, ◌+◌, ◌∙◌, ◌∷◌, ◌≡◌, ◌⊎◌, [], ap, arith, Bool, cond, false, inl, inr, length, List, refl, Some, subst, suc, sym, true, ℕ, cases_Bool, append_assoc, append-nil, slice_get, Edge, Turn, Explored, with_node, with_ends, Met, nodes_of, is_met, beyond, arrive, arrive_all, Explores, with_edge, cond-true, cond-false, map-append, begun_text, edge_text, edges_text, stuck_text, turns_text, Words}

module _ {N L : Type 0} where
  -- ---- nodes

  pub nodes_of-arrive : (eq : N → N → Bool) (a : Met N L) (met : List (Met N L)) (e : Edge N L) → nodes_of (arrive eq a met e) ≡ with_node eq (nodes_of met) e.to
  nodes_of-arrive eq a met e = go (cases_Bool (is_met eq met e.to))
    where
      go : (is_met eq met e.to ≡ true) ⊎ (is_met eq met e.to ≡ false) → nodes_of (arrive eq a met e) ≡ with_node eq (nodes_of met) e.to
      go (inl known) = ap nodes_of (cond-true (is_met eq met e.to) met (met ++ beyond a e ∷ []) known) ∙ sym (cond-true (is_met eq met e.to) (nodes_of met) (nodes_of met ++ e.to ∷ []) known)
      go (inr fresh) = ap nodes_of (cond-false (is_met eq met e.to) met (met ++ beyond a e ∷ []) fresh) ∙ map-append (λ x. x.node) met (beyond a e ∷ [])
          ∙ sym (cond-false (is_met eq met e.to) (nodes_of met) (nodes_of met ++ e.to ∷ []) fresh)

  pub nodes_of-arrive_all : (eq : N → N → Bool) (a : Met N L) (met : List (Met N L)) (es : List (Edge N L)) → nodes_of (arrive_all eq a met es) ≡ with_ends eq (nodes_of met) es
  nodes_of-arrive_all eq a met [] = refl
  nodes_of-arrive_all eq a met (e ∷ es) = nodes_of-arrive_all eq a (arrive eq a met e) es ∙ ap (λ ns. with_ends eq ns es) (nodes_of-arrive eq a met e)

  pub arrive_all-push : (eq : N → N → Bool) (a : Met N L) (met : List (Met N L)) (es : List (Edge N L)) (e : Edge N L) → arrive_all eq a met (es ++ e ∷ []) ≡ arrive eq a (arrive_all eq a met es) e
  arrive_all-push eq a met [] e = refl
  arrive_all-push eq a met (d ∷ es) e = arrive_all-push eq a (arrive eq a met d) es e

  -- ---- turns

  pub Explores-push : (p : Explored N L) (met : List (Met N L)) (place : ℕ) (ts : List (Turn N L)) (after : List (Met N L)) (a : Met N L) (t : Turn N L) → Explores p met place ts after
      → slice_get after (place + length ts) ≡ Some a → p.HasTurn a.node t → Explores p met place (ts ++ t ∷ []) (arrive_all p.eq a after t.edges)
  Explores-push p met place [] after a t h at turn =
      let here : slice_get met place ≡ Some a = subst (λ m. slice_get m place ≡ Some a) h (subst (λ k. slice_get after k ≡ Some a) (omega arith) at) in
      (a, here, turn, ap (λ m. arrive_all p.eq a m t.edges) h)
  Explores-push p met place (u ∷ ts) after a t h at turn =
      (h.0, h.1, h.2, Explores-push p (arrive_all p.eq h.0 met u.edges) (place + 1) ts after a t h.3 (subst (λ k. slice_get after k ≡ Some a) (omega arith) at) turn)

  -- ---- texts

  module _ (w : Words N L) (eq : N → N → Bool) where
    pub edges_text-push : (from : ℕ) (nodes : List N) (es : List (Edge N L)) (e : Edge N L)
        → edges_text w eq from nodes (es ++ e ∷ []) ≡ edges_text w eq from nodes es ++ edge_text w eq from (with_ends eq nodes es) e
    edges_text-push from nodes [] e = append-nil (edge_text w eq from nodes e)
    edges_text-push from nodes (d ∷ es) e =
        ap (λ t. edge_text w eq from nodes d ++ t) (edges_text-push from (with_node eq nodes d.to) es e)
        ∙ sym (append_assoc (edge_text w eq from nodes d) (edges_text w eq from (with_node eq nodes d.to) es) (edge_text w eq from (with_ends eq (with_node eq nodes d.to) es) e))

    pub begun_text-push : (from : ℕ) (nodes : List N) (now : Turn N L) (e : Edge N L)
        → begun_text w eq from nodes (with_edge now e) ≡ begun_text w eq from nodes now ++ edge_text w eq from (with_ends eq nodes now.edges) e
    begun_text-push from nodes now e =
        ap (λ t. cond now.stray (w.stray from) [] ++ t) (edges_text-push from nodes now.edges e)
        ∙ sym (append_assoc (cond now.stray (w.stray from) []) (edges_text w eq from nodes now.edges) (edge_text w eq from (with_ends eq nodes now.edges) e))

  module _ (p : Explored N L) (w : Words N L) where
    pub turns_text-push : (met : List (Met N L)) (place : ℕ) (ts : List (Turn N L)) (after : List (Met N L)) (t : Turn N L) → Explores p met place ts after
        → turns_text w p.eq place (nodes_of met) (ts ++ t ∷ []) ≡ turns_text w p.eq place (nodes_of met) ts
        ++ (begun_text w p.eq (place + length ts) (nodes_of after) t ++ stuck_text w p.eq (place + length ts) t.edges)
    turns_text-push met place [] after t h =
        append-nil (begun_text w p.eq place (nodes_of met) t ++ stuck_text w p.eq place t.edges)
        ∙ ap (λ m. begun_text w p.eq place (nodes_of m) t ++ stuck_text w p.eq place t.edges) (sym h)
        ∙ ap (λ k. begun_text w p.eq k (nodes_of after) t ++ stuck_text w p.eq k t.edges) (omega arith)
    turns_text-push met place (u ∷ ts) after t h =
        let rest = turns_text-push (arrive_all p.eq h.0 met u.edges) (place + 1) ts after t h.3 in
        let here = begun_text w p.eq place (nodes_of met) u ++ stuck_text w p.eq place u.edges in
        let later = λ (ns : List N). turns_text w p.eq (place + 1) ns ts in
        let end = λ (k : ℕ). begun_text w p.eq k (nodes_of after) t ++ stuck_text w p.eq k t.edges in
        let moved : turns_text w p.eq (place + 1) (with_ends p.eq (nodes_of met) u.edges) (ts ++ t ∷ []) ≡ later (with_ends p.eq (nodes_of met) u.edges) ++ end ((place + 1) + length ts) =
        subst (λ ns. turns_text w p.eq (place + 1) ns (ts ++ t ∷ []) ≡ later ns ++ end ((place + 1) + length ts)) (nodes_of-arrive_all p.eq h.0 met u.edges) rest in
        let shifted : end ((place + 1) + length ts) ≡ end (place + suc (length ts)) = ap end (omega arith) in
        ap (λ x. here ++ x) (moved ∙ ap (λ x. later (with_ends p.eq (nodes_of met) u.edges) ++ x) shifted)
        ∙ sym (append_assoc here (later (with_ends p.eq (nodes_of met) u.edges)) (end (place + suc (length ts))))
