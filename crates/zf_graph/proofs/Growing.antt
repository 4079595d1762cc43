-- What is met stays met.
use Rattle.std.proofs.lemmas.List.{length-append}
use Rattle.zf_graph.proofs.Prelude.{◌++◌, ◌+◌, ◌∷◌, ◌≡◌, ◌≤◌, ◌⊎◌, [], ap, arith, Bool, false, inl, inr, length, List, Some, subst, sym, true, ℕ, cases_Bool, slice_get, Edge, Explored, Explores, Met, Turn, is_met, beyond, arrive, arrive_all, cond-true, cond-false}
use Rattle.zf_graph.proofs.Places.{at_left}

module _ {N L : Type 0} (eq : N → N → Bool) where
  -- what is met stays
  pub at-arrive : (met : List (Met N L)) (a : Met N L) (e : Edge N L) (i : ℕ) (x : Met N L) → slice_get met i ≡ Some x → slice_get (arrive eq a met e) i ≡ Some x
  at-arrive met a e i x p = go (cases_Bool (is_met eq met e.to))
    where
      go : (is_met eq met e.to ≡ true) ⊎ (is_met eq met e.to ≡ false) → slice_get (arrive eq a met e) i ≡ Some x
      go (inl known) = subst (λ m. slice_get m i ≡ Some x) (sym (cond-true (is_met eq met e.to) met (met ++ beyond a e ∷ []) known)) p
      go (inr fresh) = subst (λ m. slice_get m i ≡ Some x) (sym (cond-false (is_met eq met e.to) met (met ++ beyond a e ∷ []) fresh)) (at_left met (beyond a e ∷ []) i x p)

  pub at-arrive_all : (a : Met N L) (met : List (Met N L)) (es : List (Edge N L)) (i : ℕ) (x : Met N L) → slice_get met i ≡ Some x → slice_get (arrive_all eq a met es) i ≡ Some x
  at-arrive_all a met [] i x p = p
  at-arrive_all a met (e ∷ es) i x p = at-arrive_all a (arrive eq a met e) es i x (at-arrive met a e i x p)

module _ {N L : Type 0} where
  -- ---- how many nodes are met

  pub longer-arrive : (eq : N → N → Bool) (a : Met N L) (met : List (Met N L)) (e : Edge N L) → length met ≤ length (arrive eq a met e)
  longer-arrive eq a met e = go (cases_Bool (is_met eq met e.to))
    where
      go : (is_met eq met e.to ≡ true) ⊎ (is_met eq met e.to ≡ false) → length met ≤ length (arrive eq a met e)
      go (inl known) = let l = ap (λ xs. length xs) (cond-true (is_met eq met e.to) met (met ++ beyond a e ∷ []) known) in omega (arith, l)
      go (inr fresh) = let l = ap (λ xs. length xs) (cond-false (is_met eq met e.to) met (met ++ beyond a e ∷ []) fresh) in let m = length-append met (beyond a e ∷ []) in omega (arith, l, m)

  pub longer-arrive_all : (eq : N → N → Bool) (a : Met N L) (met : List (Met N L)) (es : List (Edge N L)) → length met ≤ length (arrive_all eq a met es)
  longer-arrive_all eq a met [] = omega arith
  longer-arrive_all eq a met (e ∷ es) = let l = longer-arrive eq a met e in let m = longer-arrive_all eq a (arrive eq a met e) es in omega (arith, l, m)

  pub longer-more : (eq : N → N → Bool) (a : Met N L) (met : List (Met N L)) (es more : List (Edge N L)) → length (arrive_all eq a met es) ≤ length (arrive_all eq a met (es ++ more))
  longer-more eq a met [] more = longer-arrive_all eq a met more
  longer-more eq a met (e ∷ es) more = longer-more eq a (arrive eq a met e) es more

  pub longer-Explores : (p : Explored N L) (met : List (Met N L)) (place : ℕ) (ts : List (Turn N L)) (after : List (Met N L)) → Explores p met place ts after → length met ≤ length after
  longer-Explores p met place [] after h = let l = ap (λ xs. length xs) h in omega (arith, l)
  longer-Explores p met place (t ∷ ts) after h = let l = longer-arrive_all p.eq h.0 met t.edges in let m = longer-Explores p (arrive_all p.eq h.0 met t.edges)
      (place + 1) ts after h.3 in omega (arith, l, m)

module _ {N L : Type 0} (p : Explored N L) where
  -- what is met stays
  pub at-Explores : (met : List (Met N L)) (place : ℕ) (ts : List (Turn N L)) (after : List (Met N L)) → Explores p met place ts after
      → (i : ℕ) (x : Met N L) → slice_get met i ≡ Some x → slice_get after i ≡ Some x
  at-Explores met place [] after h i x q = subst (λ m. slice_get m i ≡ Some x) (sym h) q
  at-Explores met place (t ∷ ts) after h i x q = at-Explores (arrive_all p.eq h.0 met t.edges) (place + 1) ts after h.3 i x (at-arrive_all p.eq h.0 met t.edges i x q)
