-- What is met by its number, and the lines of the way to it.
use Rattle.zf_graph.proofs.Prelude.{◌++◌, ◌+◌, ◌<◌, ◌∙◌, ◌∷◌, ◌≡◌, ◌⊎◌, [], ap, append-nil, append_assoc, arith, arrive_all, Bool, cases_Bool, Edge, end_of, Explored, ExploresUpTo, false, Graph, inl, inr, IsOf, length, List, Met, nodes_of, number_in, refl, slice_get, Some, subst, suc, sym, true, Turn, zero, ℕ, cond-false, cond-true, position_or_len, not, IsNumbered, way_text, Words}
use Rattle.zf_graph.proofs.Places.{map_at, none_some, one_some}
use Rattle.zf_graph.proofs.Standing.{Stands, Stands-arrive_all, Stands-from_root}

-- the first that passes
position_at : {X : Type 0} (test : X → Bool) (xs : List X) (i : ℕ) (b : X) → slice_get xs i ≡ Some b → test b ≡ true
    → ((j : ℕ) (c : X) → slice_get xs j ≡ Some c → test c ≡ true → j < i → ⊥) → position_or_len test xs ≡ i
position_at test [] i b at passes first = absurd (none_some b at)
position_at test (x ∷ xs) zero b at passes first = cond-false (not (test x)) (1 + position_or_len test xs) 0 (ap not (ap test (one_some x b at) ∙ passes))
position_at test (x ∷ xs) (suc i) b at passes first = go (cases_Bool (test x)) (position_at test xs i b at passes (λ j c there h lt. first (suc j) c there h (omega (arith, lt))))
  where
    go : (test x ≡ true) ⊎ (test x ≡ false) → position_or_len test xs ≡ i → position_or_len test (x ∷ xs) ≡ suc i
    go (inl h) r = absurd (first 0 x refl h (omega arith))
    go (inr h) r = cond-true (not (test x)) (1 + position_or_len test xs) 0 (ap not h) ∙ (let n : 1 + position_or_len test xs ≡ suc i = omega (arith, r) in n)

module _ {N L : Type 0} (g : Graph N L) (p : Explored N L) (of : IsOf p g) where
  -- where nodes are met once, and along ways to them
  numbered_by : (met : List (Met N L)) (place : ℕ) (passed : List (Edge N L)) → Stands g met place passed → IsNumbered p met
  numbered_by met place passed k i x at = (
    position_at (p.eq x.node) (nodes_of met) i x.node (at_nodes met i at) (of.itself x.node) first,
    ap (λ r. end_of r x.way) of.root ∙ (k.ways i x at).ends,
  )
    where
      at_nodes : (xs : List (Met N L)) (j : ℕ) → slice_get xs j ≡ Some x → slice_get (nodes_of xs) j ≡ Some x.node
      at_nodes [] j h = absurd (none_some x h)
      at_nodes (y ∷ xs) zero h = ap (λ z. Some z.node) (one_some y x h)
      at_nodes (y ∷ xs) (suc j) h = at_nodes xs j h

      first : (j : ℕ) (c : N) → slice_get (nodes_of met) j ≡ Some c → p.eq x.node c ≡ true → j < i → ⊥
      first j c there h lt =
          let y = map_at (λ (z : Met N L). z.node) met j c there in
          let same = k.apart i j x y.0 at y.1 (of.sound x.node c h ∙ sym y.2) in
          omega (arith, same, lt)

  -- in the turn of a node
  pub numbered : (turns : List (Turn N L)) (before : List (Met N L)) (item : Met N L) (now : Turn N L) → ExploresUpTo p turns before item
      → p.BeginsTurn item.node now → IsNumbered p (arrive_all p.eq item before now.edges)
  numbered turns before item now to begun =
      numbered_by (arrive_all p.eq item before now.edges) (0 + length turns) ([] ++ now.edges)
      (Stands-arrive_all g p.eq of.sound of.itself item before (0 + length turns) [] now.edges (Stands-from_root g p of turns before to.explores)
      (subst (λ k. slice_get before k ≡ Some item) (omega arith) to.next)
      (of.some_edges item.node now begun))

module _ {N L : Type 0} (w : Words N L) (eq : N → N → Bool) (nodes : List N) where
  -- the lines of a way with one more edge
  pub way_text-push : (a : N) (es : List (Edge N L)) (e : Edge N L) → way_text w eq nodes a (es ++ e ∷ [])
      ≡ way_text w eq nodes a es ++ (w.node (number_in eq nodes (end_of a es)) (number_in eq nodes e.to) e.to ++ w.edge (number_in eq nodes (end_of a es)) e.label (number_in eq nodes e.to))
  way_text-push a [] e = append-nil (w.node (number_in eq nodes a) (number_in eq nodes e.to) e.to ++ w.edge (number_in eq nodes a) e.label (number_in eq nodes e.to))
  way_text-push a (d ∷ es) e =
      let here = w.node (number_in eq nodes a) (number_in eq nodes d.to) d.to ++ w.edge (number_in eq nodes a) d.label (number_in eq nodes d.to) in
      ap (λ t. here ++ t) (way_text-push d.to es e)
      ∙ sym (append_assoc here (way_text w eq nodes d.to es) (w.node (number_in eq nodes (end_of d.to es)) (number_in eq nodes e.to) e.to
      ++ w.edge (number_in eq nodes (end_of d.to es)) e.label (number_in eq nodes e.to)))
