-- Lists in order, and lists without repeats, of what a list has.
use Rattle.law_total.proofs.Prelude.{◌↔◌, ◌∙◌, ◌∷◌, ◌≡◌, ◌⊎◌, [], ap, inl, inr, List, map, refl, subst, sym, ⊎_elim, ordering_reverse, ◌≢◌, AllPairs, Contains, AllPairs-cons, AllPairs-head, AllPairs-nil, AllPairs-tail, Contains-cases, Contains-head, Contains-later, Contains-nil, IsTotalOrder}
use Rattle.std.specs.declared.cmp.Ordering.{Ordering}
use Rattle.std.specs.declared.cmp.Ordering.TheVariants.{Less, Equal, Greater}
use Rattle.law_total.proofs.Listed.{Decided, decided_in, Listed}

-- ---- in order

-- the ascending list of those of which P holds
pub record InOrder {A : Type 0} (cmp : A → A → Ordering) (P : A → Type 0) : Type 0 where
  pub list : List A
  pub ascending : AllPairs (λ a b. cmp a b ≡ Less) list
  pub members : (x : A) → Contains list x ↔ P x

module _ {A : Type 0} (cmp : A → A → Ordering) (order : IsTotalOrder cmp) (ties : (a b : A) → cmp a b ≡ Equal → a ≡ b) where
  below : (x y : A) → cmp x y ≡ Greater → cmp y x ≡ Less
  below x y e = order.antisymm y x ∙ ap ordering_reverse e

  inserted : (x : A) (ys : List A) → AllPairs (λ a b. cmp a b ≡ Less) ys → InOrder cmp (λ z. (x ≡ z) ⊎ Contains ys z)
  inserted x [] h = record {
    list = x ∷ [];
    ascending = AllPairs-cons (λ a b. cmp a b ≡ Less) x [] (λ y m. absurd (Contains-nil y m)) h;
    members = λ z. (λ m. Contains-cases x [] z m, λ m. ⊎_elim (λ e. subst (Contains (x ∷ [])) e (Contains-head x [])) (λ n. absurd (Contains-nil z n)) m);
  }
  inserted x (y ∷ ys) h = at (cmp x y) refl (inserted x ys (AllPairs-tail (λ a b. cmp a b ≡ Less) y ys h))
    where
      at : (o : Ordering) → cmp x y ≡ o → InOrder cmp (λ z. (x ≡ z) ⊎ Contains ys z) → InOrder cmp (λ z. (x ≡ z) ⊎ Contains (y ∷ ys) z)
      at Less e r = record {
        list = x ∷ y ∷ ys;
        ascending = AllPairs-cons (λ a b. cmp a b ≡ Less) x (y ∷ ys) (λ z m. ⊎_elim (λ s. subst (λ u. cmp x u ≡ Less) s e)
            (λ n. order.trans x y z e (AllPairs-head (λ a b. cmp a b ≡ Less) y ys h z n)) (Contains-cases y ys z m)) h;
        members = λ z. (λ m. Contains-cases x (y ∷ ys) z m, λ m. ⊎_elim (λ s. subst (Contains (x ∷ y ∷ ys)) s (Contains-head x (y ∷ ys))) (λ n. Contains-later x (y ∷ ys) z n) m);
      }
      at Equal e r = record {
        list = y ∷ ys;
        ascending = h;
        members = λ z. (λ m. inr m, λ m. ⊎_elim (λ s. subst (Contains (y ∷ ys)) (sym (ties x y e) ∙ s) (Contains-head y ys)) (λ n. n) m);
      }
      at Greater e r = record {
        list = y ∷ r.list;
        ascending = AllPairs-cons (λ a b. cmp a b ≡ Less) y r.list (λ z m. ⊎_elim (λ s. subst (λ u. cmp y u ≡ Less) s (below x y e))
            (λ n. AllPairs-head (λ a b. cmp a b ≡ Less) y ys h z n) ((r.members z).0 m)) r.ascending;
        members = λ z. (
          λ m. ⊎_elim (λ s. inr (subst (Contains (y ∷ ys)) s (Contains-head y ys))) (λ n. ⊎_elim (λ s. inl s) (λ k. inr (Contains-later y ys z k)) ((r.members z).0 n)) (Contains-cases y r.list z m),
          λ m. ⊎_elim (λ s. Contains-later y r.list z ((r.members z).1 (inl s)))
              (λ n. ⊎_elim (λ s. subst (Contains (y ∷ r.list)) s (Contains-head y r.list)) (λ k. Contains-later y r.list z ((r.members z).1 (inr k)))
              (Contains-cases y ys z n)) m,
        );
      }

  ordered_list : (xs : List A) → InOrder cmp (Contains xs)
  ordered_list [] = record { list = []; ascending = AllPairs-nil (λ a b. cmp a b ≡ Less); members = λ z. (λ m. m, λ m. m) }
  ordered_list (x ∷ xs) =
      let rest = ordered_list xs in
      let whole = inserted x rest.list rest.ascending in
      record {
        list = whole.list;
        ascending = whole.ascending;
        members = λ z. (
          λ m. ⊎_elim (λ s. subst (Contains (x ∷ xs)) s (Contains-head x xs)) (λ n. Contains-later x xs z ((rest.members z).0 n)) ((whole.members z).0 m),
          λ m. (whole.members z).1 (⊎_elim (λ s. inl s) (λ n. inr ((rest.members z).1 n)) (Contains-cases x xs z m)),
        );
      }

  pub in_order : {P : A → Type 0} → Listed P → InOrder cmp P
  in_order h =
      let o = ordered_list h.list in
      record { list = o.list; ascending = o.ascending; members = λ z. (λ m. (h.members z).0 ((o.members z).0 m), λ p. (o.members z).1 ((h.members z).1 p)) }

-- ---- without repeats

-- the list of those of which P holds, each once
pub record Distinct {A : Type 0} (P : A → Type 0) : Type 0 where
  pub list : List A
  pub distinct : AllPairs (λ a b. a ≢ b) list
  pub members : (x : A) → Contains list x ↔ P x

module _ {A : Type 0} (same : (x y : A) → Decided (x ≡ y)) where
  once_more : (x : A) (xs : List A) (rest : Distinct (Contains xs)) → Decided (Contains rest.list x) → Distinct (Contains (x ∷ xs))
  once_more x xs rest (inl there) = record {
    list = rest.list;
    distinct = rest.distinct;
    members = λ z. (
      λ m. Contains-later x xs z ((rest.members z).0 m),
      λ m. ⊎_elim (λ s. subst (Contains rest.list) s there) (λ n. (rest.members z).1 n) (Contains-cases x xs z m),
    );
  }
  once_more x xs rest (inr new) = record {
    list = x ∷ rest.list;
    distinct = AllPairs-cons (λ a b. a ≢ b) x rest.list (λ y m s. new (subst (Contains rest.list) (sym s) m)) rest.distinct;
    members = λ z. (
      λ m. ⊎_elim (λ s. subst (Contains (x ∷ xs)) s (Contains-head x xs)) (λ n. Contains-later x xs z ((rest.members z).0 n)) (Contains-cases x rest.list z m),
      λ m. ⊎_elim (λ s. subst (Contains (x ∷ rest.list)) s (Contains-head x rest.list)) (λ n. Contains-later x rest.list z ((rest.members z).1 n)) (Contains-cases x xs z m),
    );
  }

  once_each : (xs : List A) → Distinct (Contains xs)
  once_each [] = record { list = []; distinct = AllPairs-nil (λ a b. a ≢ b); members = λ z. (λ m. m, λ m. m) }
  once_each (x ∷ xs) =
      let rest = once_each xs in
      once_more x xs rest (decided_in {P = λ (y : A). Contains rest.list y} same (record { list = rest.list; members = λ y. (λ m. m, λ m. m) }) x)

  pub distinct_of : {P : A → Type 0} → Listed P → Distinct P
  distinct_of h =
      let d = once_each h.list in
      record { list = d.list; distinct = d.distinct; members = λ z. (λ m. (h.members z).0 ((d.members z).0 m), λ p. (d.members z).1 ((h.members z).1 p)) }

-- ---- images of lists

module _ {A B : Type 0} (f : A → B) where
  pub Contains-map : (xs : List A) (x : A) → Contains xs x → Contains (map f xs) (f x)
  Contains-map [] x m = absurd (Contains-nil x m)
  Contains-map (y ∷ xs) x m = ⊎_elim (λ e. subst (λ z. Contains (map f (y ∷ xs)) (f z)) e (Contains-head (f y) (map f xs)))
      (λ n. Contains-later (f y) (map f xs) (f x) (Contains-map xs x n)) (Contains-cases y xs x m)

  pub Contains-mapped : (xs : List A) (y : B) → Contains (map f xs) y → (x : A) × Contains xs x × (f x ≡ y)
  Contains-mapped [] y m = absurd (Contains-nil y m)
  Contains-mapped (x ∷ xs) y m = ⊎_elim (λ e. (x, Contains-head x xs, e)) (λ n. let r = Contains-mapped xs y n in (r.0, Contains-later x xs r.0 r.1, r.2)) (Contains-cases (f x) (map f xs) y m)

  pub AllPairs-mapped : (R : B → B → Type 0) (xs : List A) → AllPairs (λ a b. R (f a) (f b)) xs → AllPairs R (map f xs)
  AllPairs-mapped R [] h = AllPairs-nil R
  AllPairs-mapped R (x ∷ xs) h =
      AllPairs-cons R (f x) (map f xs) (λ y m. let r = Contains-mapped xs y m in subst (R (f x)) r.2 (AllPairs-head (λ a b. R (f a) (f b)) x xs h r.0 r.1))
      (AllPairs-mapped R xs (AllPairs-tail (λ a b. R (f a) (f b)) x xs h))
