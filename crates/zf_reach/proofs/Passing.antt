-- What an edge brings, by what the set of nodes answers.
use Rattle.zf_reach.proofs.Prelude.{◌++◌, ◌+◌, ◌<◌, ◌∙◌, ◌∷◌, ◌≡◌, ◌≤◌, ◌⊎◌, [], ap, arith, Bool, cases_Bool, cases_eq, cond, cond-false, cond-true, eq-eqb, false, inl, inr, length, length-append, List, list_any, ne_eqb, refl, slice_get, Some, some_at, subst, sym, true, ℕ, edge_text, IsFull, with_node, Words, false≢true, or_cases, or_parts, position_or_len, nat_eq, not, at_last, edge}

module _ {X : Type 0} (test : X → Bool) where
  -- where none passes, the place is after the last
  pub place-none : (xs : List X) → list_any test xs ≡ false → position_or_len test xs ≡ length xs
  place-none [] h = refl
  place-none (x ∷ xs) h =
      let parts = or_parts (test x) (list_any test xs) h in
      let r = place-none xs parts.1 in
      cond-true (not (test x)) (1 + position_or_len test xs) 0 (ap not parts.0) ∙ (let s : 1 + position_or_len test xs ≡ length (x ∷ xs) = omega (arith, r) in s)

  -- where one passes, it is one of their places
  place-here : (x : X) (xs : List X) → test x ≡ true → position_or_len test (x ∷ xs) < length (x ∷ xs)
  place-here x xs here = let e = cond-false (not (test x)) (1 + position_or_len test xs) 0 (ap not here) in omega (arith, e)

  place-later : (x : X) (xs : List X) → (position_or_len test xs < length xs) → (test x ≡ true) ⊎ (test x ≡ false) → position_or_len test (x ∷ xs) < length (x ∷ xs)
  place-later x xs h (inl here) = place-here x xs here
  place-later x xs h (inr other) = let e = cond-true (not (test x)) (1 + position_or_len test xs) 0 (ap not other) in omega (arith, e, h)

  place-first : (x : X) (xs : List X) → (list_any test xs ≡ true → position_or_len test xs < length xs) → (test x ≡ true) ⊎ (list_any test xs ≡ true) → position_or_len test (x ∷ xs) < length (x ∷ xs)
  place-first x xs rest (inl here) = place-here x xs here
  place-first x xs rest (inr later) = place-later x xs (rest later) (cases_Bool (test x))

  pub place-some : (xs : List X) → list_any test xs ≡ true → position_or_len test xs < length xs
  place-some [] h = absurd (false≢true h)
  place-some (x ∷ xs) h = place-first x xs (place-some xs) (or_cases (test x) (list_any test xs) h)

module _ {N L : Type 0} (w : Words N L) (p_eq node_eq : N → N → Bool) (same : p_eq ≡ node_eq) (keys after : List N) (to : N) (number : ℕ) (is_new : Bool)
    (new : is_new ≡ not (list_any (node_eq to) keys)) (placed : number ≡ position_or_len (node_eq to) keys) (kept : after ≡ with_node node_eq keys to) where
  -- what is laid out is the text of the edge
  pub text_after : (place : ℕ) (label : L) (line : List ℕ) → ((of : N) → slice_get after number ≡ Some of → line ≡ cond is_new (w.node place number of) [] ++ w.edge place label number)
      → line ≡ edge_text w p_eq place keys (edge label to)
  text_after place label line says = subst (λ f. line ≡ edge_text w f place keys (edge label to)) (sym same) (go (cases_Bool (list_any (node_eq to) keys)))
    where
      known : list_any (node_eq to) keys ≡ true → line ≡ edge_text w node_eq place keys (edge label to)
      known h =
          let some = some_at keys number (subst (λ k. k < length keys) (sym placed) (place-some (node_eq to) keys h)) in
          let there : slice_get after number ≡ Some some.0 = subst (λ ks. slice_get ks number ≡ Some some.0) (sym (kept ∙ cond-true (list_any (node_eq to) keys) keys (keys ++ to ∷ []) h)) some.1 in
          says some.0 there
          ∙ ap (λ t. t ++ w.edge place label number) (cond-false is_new (w.node place number some.0) [] (new ∙ ap not h)
          ∙ sym (cond-true (list_any (node_eq to) keys) [] (w.node place (length keys) to) h))
          ∙ ap (λ k. cond (list_any (node_eq to) keys) [] (w.node place (length keys) to) ++ w.edge place label k) placed

      fresh : list_any (node_eq to) keys ≡ false → line ≡ edge_text w node_eq place keys (edge label to)
      fresh h =
          let last : number ≡ length keys = placed ∙ place-none (node_eq to) keys h in
          let there : slice_get after number ≡ Some to = subst (λ ks. slice_get ks number ≡ Some to)
          (sym (kept ∙ cond-false (list_any (node_eq to) keys) keys (keys ++ to ∷ []) h))
          (subst (λ k. slice_get (keys ++ to ∷ []) k ≡ Some to) (sym last) (at_last keys to)) in
          says to there
          ∙ ap (λ t. t ++ w.edge place label number) (cond-true is_new (w.node place number to) [] (new ∙ ap not h) ∙ ap (λ k. w.node place k to) last
          ∙ sym (cond-false (list_any (node_eq to) keys) [] (w.node place (length keys) to) h))
          ∙ ap (λ k. cond (list_any (node_eq to) keys) [] (w.node place (length keys) to) ++ w.edge place label k) placed

      go : (list_any (node_eq to) keys ≡ true) ⊎ (list_any (node_eq to) keys ≡ false) → line ≡ edge_text w node_eq place keys (edge label to)
      go (inl h) = known h
      go (inr h) = fresh h

-- the number stands within them, one more than which is new
module _ {N : Type 0} (p_eq node_eq : N → N → Bool) (same : p_eq ≡ node_eq) (keys : List N) (to : N) (number : ℕ) (is_new : Bool)
    (new : is_new ≡ not (list_any (node_eq to) keys)) (placed : number ≡ position_or_len (node_eq to) keys) where
  -- as many nodes are met as are asked for
  pub full_new : (limit : ℕ) → is_new ≡ true → IsFull (nat_eq number limit) p_eq keys to limit
  full_new limit true' = subst (λ f. IsFull (nat_eq number limit) f keys to limit) (sym same) (go (cases_eq number limit))
    where
      absent : list_any (node_eq to) keys ≡ false
      absent = elim (cases_Bool (list_any (node_eq to) keys)) [ inl h ↦ absurd (false≢true (sym (new ∙ ap not h) ∙ true')) | inr h ↦ h ]

      last : number ≡ length keys
      last = placed ∙ place-none (node_eq to) keys absent

      go : (number ≡ limit) ⊎ (number ≡ limit → ⊥) → IsFull (nat_eq number limit) node_eq keys to limit
      go (inl h) = subst (λ b. IsFull b node_eq keys to limit) (sym (eq-eqb number limit h)) (absent, sym last ∙ h)
      go (inr h) = subst (λ b. IsFull b node_eq keys to limit) (sym (ne_eqb number limit h)) room
        where
          room : length keys ≤ limit → length (with_node node_eq keys to) ≤ limit
          room le =
              let l = ap (λ ks. length ks) (cond-false (list_any (node_eq to) keys) keys (keys ++ to ∷ []) absent) in
              let m = length-append keys (to ∷ []) in
              omega (arith, l, m, le, last, h)
