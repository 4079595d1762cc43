-- The first lines of a search are a front of what is written of it.
use Rattle.law_answered.proofs.Prelude.{◌++◌, ◌∙◌, ◌∷◌, ◌≡◌, ◌≤◌, [], ap, append-nil, append_assoc, inl, inr, length, List, Option, refl, subst, sym, ℕ, flat_map-append, IsTotalOrder, AllPairs, Contains, Ordering, AllPairs-across, Contains-head, Contains-left, Contains-right, Conjuncts, Event, TiesAreEqual, IsUpTo, IsFront, AreEventsUpTo, Hold, IsNotAbove, IsWritten, lines, Status, AreTold, Wording}
use Rattle.law_answered.proofs.Rows.{before_last, nothing_more}
use Rattle.law_answered.proofs.OneEnding.{Follows, begins, held, last_of, never_itself}

module _ {V : Type 0} (telling : Wording V) where
  -- the lines of events are a front of the lines of these and more
  pub front_of_lines : (xs more : List (Event V)) (end : List ℕ) → IsFront (lines telling (xs ++ more) ++ end) (lines telling xs)
  front_of_lines xs more end =
      (lines telling more ++ end, ap (λ t. t ++ end) (flat_map-append (λ (e : Event V). telling.line e.row) xs more) ∙ append_assoc (lines telling xs) (lines telling more) end)

  module _ (limit : Option ℕ) (xs : List (Event V)) (hold : Hold xs) where
    -- the events that are written begin with those that hold
    more_written : (ys more : List (Event V)) (last : Option (List V)) (text : List ℕ) (status : Status) → ys ≡ xs ++ more
        → IsWritten telling limit ys last text status → IsFront text (lines telling xs)
    more_written ys more last text status q (IsWritten.pauses front e is up holds reached told done) =
        subst (λ t. IsFront t (lines telling xs)) (sym (told ∙ ap (λ zs. lines telling zs ++ telling.more) q)) (front_of_lines xs more telling.more)
    more_written ys more last text status q (IsWritten.ends none holds below told done) =
        subst (λ t. IsFront t (lines telling xs)) (sym (told ∙ ap (λ zs. lines telling zs ++ telling.end) q)) (front_of_lines xs more telling.end)
    more_written ys [] last text status q (IsWritten.breaks front e is up holds out below told past) =
        absurd (held telling limit (xs ++ []) e (subst Hold (sym (append-nil xs)) hold) (subst (λ zs. Contains zs e) (sym is ∙ q) (last_of telling limit front e)) out)
    more_written ys (m ∷ more) last text status q (IsWritten.breaks front e is up holds out below told past) =
        let b = before_last xs m more front e (sym q ∙ is) in
        subst (λ t. IsFront t (lines telling xs)) (sym (told ∙ ap (λ zs. lines telling zs ++ telling.out e.row) b.1)) (front_of_lines xs b.0 (telling.out e.row))

-- ---- events up to a row

module _ {V : Type 0} (cmp : V → V → Ordering) (o : IsTotalOrder cmp) (ties : TiesAreEqual cmp) (s : Conjuncts V) (told : AreTold s) (ranges : List (List V)) (after : Option (List V))
    (telling : Wording V) (limit : Option ℕ) (xs ys : List (Event V)) (last other_last : Option (List V)) (h : AreEventsUpTo cmp s ranges after last xs)
    (k : AreEventsUpTo cmp s ranges after other_last ys) (hold : Hold xs) (within : IsNotAbove limit (length xs)) (text : List ℕ) (status : Status) where
  -- the events that hold are no more than those that are written
  no_further : (more : List (Event V)) → xs ≡ ys ++ more → IsWritten telling limit ys other_last text status → more ≡ []
  no_further [] q w = refl
  no_further (m ∷ more) q (IsWritten.pauses front e is up holds reached told done) =
      nothing_more ys (m ∷ more) (subst (λ zs. length zs ≤ length ys) q (subst (λ l. IsNotAbove l (length xs)) reached within))
  no_further (m ∷ more) q (IsWritten.breaks front e is up holds out below told past) =
      let there : Contains xs e = subst (λ zs. Contains zs e) (sym q) (Contains-left ys (m ∷ more) e (subst (λ zs. Contains zs e) (sym is) (last_of telling limit front e))) in
      absurd (held telling limit xs e hold there out)
  no_further (m ∷ more) q (IsWritten.ends none holds below told done) =
      let there : Contains xs m = subst (λ zs. Contains zs m) (sym q) (Contains-right ys (m ∷ more) m (Contains-head m more)) in
      let earlier : Contains ys m = (k.members m).1 (((h.members m).0 there).0, subst (λ w. IsUpTo cmp w m.row) (sym none) tt) in
      absurd (never_itself cmp o ties m.row (AllPairs-across (Follows cmp o ties) ys (m ∷ more) (subst (λ zs. AllPairs (Follows cmp o ties) zs) q h.ascending) m m earlier (Contains-head m more)))

  pub first_lines : IsWritten telling limit ys other_last text status → IsFront text (lines telling xs)
  first_lines w = elim (begins cmp o ties s told ranges after xs ys last other_last h k) [
    | inl m ↦ more_written telling limit xs hold ys m.0 other_last text status m.1 w
    | inr m ↦
        let same : ys ≡ xs ++ [] = sym (append-nil ys) ∙ ap (λ zs. ys ++ zs) (sym (no_further m.0 m.1 w)) ∙ sym m.1 ∙ sym (append-nil xs) in
        more_written telling limit xs hold ys [] other_last text status same w
  ]
