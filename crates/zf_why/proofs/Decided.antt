-- A search finds an event exactly where some row makes all predicates other than False.
use Rattle.zf_why.proofs.Prelude.{◌<◌, ◌∷◌, ◌⊎◌, refl, [], arith, inl, inr, length, List, None, Option, subst, suc, sym, zero, ℕ, AllByRecursion, slice_get, IsTruthOf, Event, IsEvent, Advances, Stage, False, Out, True, Breaks, End, Holds, Schema, ResolvedTree, value_order, Value, Environment, AreRanges, portion, HasTruth, property, told, conjuncts_of, Goal, Begins, HasRow, IsAllowed, RuleOut, Decides, Bool, Result, Ok, Err, IfOk, ◌≢◌, Conjuncts}
use Rattle.zf_walk.specs.declared.judge.Truth.{Truth}
use Rattle.zf_plan.proofs.Alike.{advances}
use Rattle.zf_why.proofs.Rows.{row_of, row_in}

module _ (e : Environment) (row : List Value) where
  says : (ps : List ResolvedTree) → ((c : ℕ) → c < length ps → HasTruth e row (slice_get ps c) (told True) ⊎ HasTruth e row (slice_get ps c) (told Out)) → AllByRecursion (IsAllowed e row) ps
  says [] h = tt
  says (p ∷ ps) h = (h zero (omega arith), says ps (λ c l. h (suc c) (omega arith)))

  said : (ps : List ResolvedTree) → AllByRecursion (IsAllowed e row) ps → (c : ℕ) → c < length ps → HasTruth e row (slice_get ps c) (told True) ⊎ HasTruth e row (slice_get ps c) (told Out)
  said [] h c l = absurd (omega arith)
  said (p ∷ ps) h zero l = h.0
  said (p ∷ ps) h (suc c) l = said ps h.1 c (omega arith)

  true_at : (p : ResolvedTree) (ps : List ResolvedTree) → HasTruth e row (slice_get (p ∷ ps) zero) (told True) → ((c : ℕ) → c < length ps → HasTruth e row (slice_get ps c) (told True))
      → (c : ℕ) → c < length (p ∷ ps) → HasTruth e row (slice_get (p ∷ ps) c) (told True)
  true_at p ps h hs zero l = h
  true_at p ps h hs (suc c) l = hs c (omega arith)

  -- all are True, or one is Out
  true_or_out : (ps : List ResolvedTree) → AllByRecursion (IsAllowed e row) ps
      → ((c : ℕ) → c < length ps → HasTruth e row (slice_get ps c) (told True)) ⊎ ((c : ℕ) × (c < length ps) × HasTruth e row (slice_get ps c) (told Out))
  true_or_out [] h = inl (λ c l. absurd (omega arith))
  true_or_out (p ∷ ps) (inr out, hs) = inr (zero, omega arith, out)
  true_or_out (p ∷ ps) (inl true, hs) = elim (true_or_out ps hs) [
    | inl all ↦ inl (true_at p ps true all)
    | inr (c, l, out) ↦ inr (suc c, omega arith, out)
  ]

module _ (e : Environment) (a : Schema) (held : List (Option Value)) (ranges : List (List Value)) (are : AreRanges e a.comps held ranges) where
  -- the event of a row that allows all
  pub event_of : HasRow e a.comps held a.conjuncts → (ev : Event Value) × IsEvent value_order (property e a.conjuncts) ranges None ev
  event_of h = elim (true_or_out e h.row a.conjuncts h.allowed) [
    | inl all ↦ (record { row = h.row; truth = True }, record { within = row_in e a.comps held ranges h.row are h.within; later = tt; truth_of = all; not_false = λ q. cc })
    | inr out ↦ (
      record { row = h.row; truth = Out },
      record {
        within = row_in e a.comps held ranges h.row are h.within;
        later = tt;
        truth_of
            = (said e h.row a.conjuncts h.allowed, out);
        not_false = λ q. cc;
      },
    )
  ]

  -- the row of an event allows all
  pub row_at : (after : Option (List Value)) (ev : Event Value) → IsEvent value_order (property e a.conjuncts) ranges after ev → HasRow e a.comps held a.conjuncts
  row_at after ev i = record { row = ev.row; within = row_of e a.comps held ranges ev.row are i.within; allowed = of ev.truth i.truth_of i.not_false } where
    of : (t : Truth) → IsTruthOf (property e a.conjuncts) ev.row t → t ≢ False → AllByRecursion (IsAllowed e ev.row) a.conjuncts
    of False t not = absurd (not refl)
    of True t not = says e ev.row a.conjuncts (λ c l. inl (t c l))
    of Out t not = says e ev.row a.conjuncts t.0

module _ (e : Environment) (a : Schema) (held : List (Option Value)) (g : Goal) (b : Stage Value) (begun : Begins e a (portion None held) g b) where
  abbrev stated : Conjuncts Value
  stated = property e a.conjuncts

  pub holds : (d : Stage Value) → Advances value_order (conjuncts_of g) Holds b d → HasRow e a.comps held a.conjuncts
  holds d h = let t = advances value_order (conjuncts_of g) stated begun.same Holds b d h in record {
    row = t.0;
    within = row_of e a.comps held b.ranges t.0 begun.ranges t.2.event.within;
    allowed = says e t.0 a.conjuncts (λ c l. inl (t.2.event.truth_of c l));
  }

  pub breaks : (d : Stage Value) → Advances value_order (conjuncts_of g) Breaks b d → HasRow e a.comps held a.conjuncts
  breaks d h = let t = advances value_order (conjuncts_of g) stated begun.same Breaks b d h in record {
    row = t.0;
    within = row_of e a.comps held b.ranges t.0 begun.ranges t.2.event.within;
    allowed = says e t.0 a.conjuncts t.2.event.truth_of.0;
  }

  pub ends : (d : Stage Value) → Advances value_order (conjuncts_of g) End b d → RuleOut e a.comps held a.conjuncts
  ends d h row =
      let t = advances value_order (conjuncts_of g) stated begun.same End b d h in
      let ev = event_of e a held b.ranges begun.ranges row in
      let there : IsEvent value_order stated b.ranges b.after ev.0 = subst (λ n. IsEvent value_order stated b.ranges n ev.0) (sym begun.named) ev.1 in
      t.1 ev.0 there (begun.ahead ev.0 ev.1)

-- what a search finds decides it
pub found : (e : Environment) (a : Schema) (held : List (Option Value)) (g : Goal) (b : Stage Value) {E : Type 0} (r : Result Bool E) → Begins e a (portion None held) g b
    → IfOk r (λ f. (e : Environment) (a : Schema) (held : List (Option Value)) → Begins e a (portion None held) g b → Decides e a.comps held a.conjuncts f)
    → IfOk r (Decides e a.comps held a.conjuncts)
found e a held g b (Ok f) begun h = h e a held begun
found e a held g b (Err x) begun h = tt
