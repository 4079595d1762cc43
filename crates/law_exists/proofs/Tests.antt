-- The number of the tests of a walk.
use Rattle.law_exists.proofs.Prelude.{◌<◌, ◌≡◌, ap, inl, length, List, None, Option, refl, Some, take, ℕ, cases_eq, slice_cmp, Ordering, Greater, Less, Conjuncts, IsBound, IsCount, IsNumberOfTests, IsDueTest, IsReached, IsUpTo, IsWalked, False, Decided, decided_all, decided_both, decided_lists, decided_not, decided_same, decided_then, HasSome, Listed, listed_kept, listed_pairs, listed_same, decided_lt, listed_below, distinct_of, AreTold, fronts_of, same_ordering}

same_pair : {A B : Type 0} → ((x y : A) → Decided (x ≡ y)) → ((x y : B) → Decided (x ≡ y)) → (p q : A × B) → Decided (p ≡ q)
same_pair f g p q = decided_same (λ e. (λ i. (e.0 i, e.1 i))) (λ e. (ap (λ r. r.0) e, ap (λ r. r.1) e)) (decided_both (f p.0 q.0) (g p.1 q.1))

module _ {V : Type 0} (same : (v w : V) → Decided (v ≡ w)) where
  -- what a list has has a number
  pub some_count : (P : List V × ℕ → Type 0) → Listed P → HasSome (IsCount P)
  some_count P h =
      let d = distinct_of (same_pair (decided_lists same) cases_eq) h in
      (length d.list, record { pairs = d.list; distinct = d.distinct; members = d.members; is = refl })

module _ {V : Type 0} (cmp : V → V → Ordering) where
  decided_reached : (after : Option (List V)) (n : ℕ) (row : List V) → Decided (IsReached cmp after n row)
  decided_reached None n row = inl tt
  decided_reached (Some named) n row =
      decided_both (decided_not (same_ordering (slice_cmp cmp (take (length row) named) row) Greater)) (decided_then (cases_eq (length row) n) (same_ordering (slice_cmp cmp named row) Less))

  decided_up_to : (whole : Option (List V)) (row : List V) → Decided (IsUpTo cmp whole row)
  decided_up_to None row = inl tt
  decided_up_to (Some whole) row = decided_not (same_ordering (slice_cmp cmp (take (length row) whole) row) Less)

  module _ (s : Conjuncts V) (told : AreTold s) where
    -- no conjunct that needs fewer values is False on the row
    abbrev IsKept : List V → Type 0
    IsKept row = (d : ℕ) → d < s.number → s.due d < length row → s.says d row False → ⊥

    decided_kept : (row : List V) → Decided (IsKept row)
    decided_kept row = decided_all (λ d. s.due d < length row → s.says d row False
        → ⊥) (listed_below s.number) (λ d. decided_then (decided_lt (s.due d) (length row)) (decided_not (told.decided d row False)))

    -- no earlier conjunct that needs as many is False on the row
    abbrev IsUnbroken : List V → ℕ → Type 0
    IsUnbroken row c = (d : ℕ) → d < c → s.due d ≡ length row → s.says d row False → ⊥

    decided_unbroken : (row : List V) (c : ℕ) → Decided (IsUnbroken row c)
    decided_unbroken row c = decided_all (λ d. s.due d ≡ length row → s.says d row False
        → ⊥) (listed_below c) (λ d. decided_then (cases_eq (s.due d) (length row)) (decided_not (told.decided d row False)))

    module _ (ranges : List (List V)) where
      listed_due : Listed (λ (p : List V × ℕ). IsDueTest s ranges p)
      listed_due =
          listed_same (listed_kept (λ (p : List V × ℕ). IsKept p.0 × (s.due p.1 ≡ length p.0))
          (listed_pairs (λ row c. c < s.number) (fronts_of ranges) (λ row. listed_below s.number))
          (λ p. decided_both (decided_kept p.0) (cases_eq (s.due p.1) (length p.0)))) (λ p. (
            λ h. record { candidate = record { front = h.0.0; kept = h.1.0 }; conjunct = h.0.1; due = h.1.1 },
            λ h. let c = h.candidate in ((c.front, h.conjunct), (c.kept, h.due)),
          ))

      listed_tests : (after whole : Option (List V)) → Listed (λ (p : List V × ℕ). IsWalked cmp s ranges after p × IsUpTo cmp whole p.0)
      listed_tests after whole =
          listed_same (listed_kept (λ (p : List V × ℕ). IsUnbroken p.0 p.1
          × (IsReached cmp after (length ranges) p.0 × IsUpTo cmp whole p.0)) listed_due
          (λ p. decided_both (decided_unbroken p.0 p.1) (decided_both (decided_reached after (length ranges) p.0) (decided_up_to whole p.0)))) (λ p. (
            λ h. (record { is_pair = h.0; first = h.1.0; reached = h.1.1.0 }, h.1.1.1),
            λ h. let w = h.0 in (w.is_pair, (w.first, (w.reached, h.1))),
          ))

      pub some_bound : ((v w : V) → Decided (v ≡ w)) → HasSome (IsBound s ranges)
      some_bound same = some_count same (λ (p : List V × ℕ). IsDueTest s ranges p) listed_due

      pub some_number_of_tests : ((v w : V) → Decided (v ≡ w)) → (after whole : Option (List V)) → HasSome (IsNumberOfTests cmp s ranges after whole)
      some_number_of_tests same after whole = some_count same (λ (p : List V × ℕ). IsWalked cmp s ranges after p × IsUpTo cmp whole p.0) (listed_tests after whole)
