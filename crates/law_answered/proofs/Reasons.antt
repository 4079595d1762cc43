-- What `why` tells of a search is one first event, or one cause but for which minimal set of conjuncts; and there is something to tell.
use Rattle.law_answered.proofs.Prelude.{◌++◌, ◌+◌, ◌∙◌, ◌∷◌, ◌≡◌, ◌≤◌, ◌⊎◌, [], All-cons, All-contains, All-nil, ap, arith, Bool, codes, inl, inr, length, List, None, Option, refl, Some, subst, sym, ℕ, IsTrue, AllByRecursion, Contains, Contains-head, Contains-nil, Event, IsEvent, Out, True, value_order, Value, Comp, Defined, Schema, sets_of, one_bounds, Environment, Portion, property, spellings, HasEvents, IsWritten, lines, Status, PastBounds, empty_lines, TellsConjuncts, TellsWhy, told_lines, HasSome, Format, no_binding_line, row_wording, satisfied_line, Wording, Done, EmptiedBy, RefutedBy, RefutedTogetherBy, ResolvedTree, RuleOut, chosen_of, event_of, length-append, nothing_beside, others_beside, some_ranges, some_search, whole}
use Rattle.law_answered.proofs.OneCause.{no_row_when_empty, not_both, same_alone, same_empty}
use Rattle.law_answered.proofs.OneSearch.{one_search}
use Rattle.law_answered.proofs.SomeCause.{some_cause, some_reported}

-- ---- as `show` would have it, with one binding at most

module _ (f : Format) (details : Bool) (file source : List ℕ) (g : List Defined) (a : Schema) (e : Environment) (p : Portion) where
  abbrev telling : Wording Value
  telling = row_wording f (spellings g) a.comps

  pub record IsSeen (last : Option (List Value)) (status : Status) : Type 0 where
    pub events : List (Event Value)
    pub text : List ℕ
    pub listed : HasEvents e a p last events
    pub ends : IsWritten telling (Some 1) events last text status

  seen_first : (ev : Event Value) (status : Status) → HasEvents e a p (Some ev.row) (ev ∷ []) → ev.truth ≡ True → status ≡ Done → IsSeen (Some ev.row) status
  seen_first ev status listed true done = record {
    events = ev ∷ [];
    text = lines telling (ev ∷ []) ++ telling.more;
    listed = listed;
    ends = IsWritten.pauses [] ev refl refl (All-cons (λ (x : Event Value). x.truth ≡ True) ev [] true (All-nil (λ (x : Event Value). x.truth ≡ True))) refl refl done;
  }

  seen_out : (ev : Event Value) (status : Status) → HasEvents e a p (Some ev.row) (ev ∷ []) → ev.truth ≡ Out → status ≡ PastBounds → IsSeen (Some ev.row) status
  seen_out ev status listed out past = record {
    events = ev ∷ [];
    text = lines telling [] ++ telling.out ev.row;
    listed = listed;
    ends = IsWritten.breaks [] ev refl refl (All-nil (λ (x : Event Value). x.truth ≡ True)) out (omega arith) refl past;
  }

  seen_none : (status : Status) → HasEvents e a p None [] → status ≡ Done → IsSeen None status
  seen_none status listed done = record {
    events = [];
    text = lines telling [] ++ telling.end;
    listed = listed;
    ends = IsWritten.ends refl (All-nil (λ (x : Event Value). x.truth ≡ True)) (omega arith) refl done;
  }

  one_seen : (last other_last : Option (List Value)) (s t : Status) → IsSeen last s → IsSeen other_last t → (last ≡ other_last) × (s ≡ t)
  one_seen last other_last s t x y =
      let end = one_search e a p telling (Some 1) x.events y.events last other_last x.text y.text s t x.listed y.listed x.ends y.ends in
      (end.lasts, end.statuses)

  -- ---- what is reported is one

  -- two texts are one, or tell the same conjuncts with other sides, or two minimal sets of conjuncts
  abbrev pub AreOneReason : (one two : List ℕ) → Type 0
  AreOneReason one two = (one ≡ two)
      ⊎ (((alone : List Bool) × RefutedBy e a p.held alone × TellsConjuncts f details file source a e p.held nothing_beside alone (codes "each alone") one
      × TellsConjuncts f details file source a e p.held nothing_beside alone (codes "each alone") two)
      ⊎ ((first : List Bool) × (second : List Bool) × RefutedTogetherBy e a p.held first × RefutedTogetherBy e a p.held second
      × TellsConjuncts f details file source a e p.held (others_beside a.conjuncts first) first (codes "only together") one
      × TellsConjuncts f details file source a e p.held (others_beside a.conjuncts second) second (codes "only together") two))

  pub record AreOneTold (one two : List ℕ) (s t : Status) : Type 0 where
    pub statuses : s ≡ t
    pub reasons : AreOneReason one two

  -- the line of the first row, by its status
  abbrev first_line : Status → List Value → List ℕ
  first_line Done row = telling.line row ++ satisfied_line f
  first_line _ row = telling.out row

  -- of none the cause is reported
  abbrev TellsCause : (text : List ℕ) → Type 0
  TellsCause text = ((m : List Bool) × EmptiedBy e a p.held m × (text ≡ empty_lines f file source (chosen_of a.comps m) ++ no_binding_line f (codes "empty")))
      ⊎ (((m : List Bool) × RefutedBy e a p.held m × TellsConjuncts f details file source a e p.held nothing_beside m (codes "each alone") text)
      ⊎ ((m : List Bool) × RefutedTogetherBy e a p.held m
      × TellsConjuncts f details file source a e p.held (others_beside a.conjuncts m) m (codes "only together") text))

  abbrev TellsOf : (last : Option (List Value)) → (text : List ℕ) → Status → Type 0
  TellsOf (Some row) text status = text ≡ first_line status row
  TellsOf None text status = TellsCause text

  told_of : (text : List ℕ) (status : Status) → TellsWhy f details file source g a e p text status
      → (last : Option (List Value)) × IsSeen last status × TellsOf last text status
  told_of text status (TellsWhy.satisfied ev listed true told done) =
      (Some ev.row, seen_first ev status listed true done, told ∙ ap (λ (s : Status). first_line s ev.row) (sym done))
  told_of text status (TellsWhy.doubtful ev listed out told past) =
      (Some ev.row, seen_out ev status listed out past, told ∙ ap (λ (s : Status). first_line s ev.row) (sym past))
  told_of text status (TellsWhy.emptied m none cause told done) = (None, seen_none status none done, inl (m, cause, told))
  told_of text status (TellsWhy.refuted m none cause told done) = (None, seen_none status none done, inr (inl (m, cause, told)))
  told_of text status (TellsWhy.refuted_together m none cause told done) = (None, seen_none status none done, inr (inr (m, cause, told)))

  module _ (one two : List ℕ) (s t : Status) where
    one_cause : TellsCause one → TellsCause two → AreOneReason one two
    one_cause (inl (m, x, is)) (inl (n, y, also)) =
        inl (is ∙ ap (λ (z : List Bool). empty_lines f file source (chosen_of a.comps z) ++ no_binding_line f (codes "empty"))
        (same_empty e a p.held m n x y) ∙ sym also)
    one_cause (inl (m, x, is)) (inr (inl (n, y, also))) = absurd (no_row_when_empty e a p.held m x y.0)
    one_cause (inl (m, x, is)) (inr (inr (n, y, also))) = absurd (no_row_when_empty e a p.held m x y.2)
    one_cause (inr (inl (m, x, is))) (inl (n, y, also)) = absurd (no_row_when_empty e a p.held n y x.0)
    one_cause (inr (inl (m, x, is))) (inr (inl (n, y, also))) =
        inr (inl (
          n,
          y,
          subst (λ (z : List Bool). TellsConjuncts f details file source a e p.held nothing_beside z (codes "each alone") one)
              (same_alone e a p.held m n x y) is,
          also,
        ))
    one_cause (inr (inl (m, x, is))) (inr (inr (n, y, also))) = absurd (not_both e a p.held m n x y)
    one_cause (inr (inr (m, x, is))) (inl (n, y, also)) = absurd (no_row_when_empty e a p.held n y x.2)
    one_cause (inr (inr (m, x, is))) (inr (inl (n, y, also))) = absurd (not_both e a p.held n m y x)
    one_cause (inr (inr (m, x, is))) (inr (inr (n, y, also))) = inr (inr (m, n, x, y, is, also))

    one_last : (last : Option (List Value)) → s ≡ t → TellsOf last one s → TellsOf last two t → AreOneReason one two
    one_last (Some row) same told also = inl (told ∙ ap (λ (u : Status). first_line u row) same ∙ sym also)
    one_last None same told also = one_cause told also

    pub one_told : TellsWhy f details file source g a e p one s → TellsWhy f details file source g a e p two t → AreOneTold one two s t
    one_told u v =
        let x = told_of one s u in
        let y = told_of two t v in
        let same = one_seen x.0 y.0 s t x.1 y.1 in
        record { statuses = same.1; reasons = one_last y.0 same.1 (subst (λ (last : Option (List Value)). TellsOf last one s) same.0 x.2) y.2 }

  -- ---- there is something to tell

  abbrev pub CanTell : Type 0
  CanTell = (text : List ℕ) × (status : Status) × TellsWhy f details file source g a e p text status

  alone_of : (front : List (Event Value)) (n : ℕ) → n ≡ length front + 1 → n ≤ 1 → front ≡ []
  alone_of [] n is l = refl
  alone_of (ev ∷ front) n is l = absurd (omega (arith, is, l))

  of_search : (last : Option (List Value)) (events : List (Event Value)) (text : List ℕ) (status : Status) → HasEvents e a p last events → IsWritten telling (Some 1) events last text status
      → (HasEvents e a p None [] → CanTell) → CanTell
  of_search last events text status listed (IsWritten.pauses front ev is up hold reached told done) none =
      let count : 1 ≡ length events = let z : Some 1 ≡ Some (length events) = reached in cc in
      let empty = alone_of front (length events) (ap length is ∙ length-append front (ev ∷ [])) (omega (arith, count)) in
      let whole : events ≡ ev ∷ [] = is ∙ ap (λ es. es ++ ev ∷ []) empty in
      let here : Contains events ev = subst (λ es. Contains es ev) (sym whole) (Contains-head ev []) in (
        telling.line ev.row ++ satisfied_line f,
        Done,
        TellsWhy.satisfied ev (subst (λ l. HasEvents e a p l (ev ∷ [])) up (subst (HasEvents e a p last) whole listed))
            (All-contains (λ (x : Event Value). x.truth ≡ True) events ev hold here) refl refl,
      )
  of_search last events text status listed (IsWritten.breaks front ev is up hold out below told past) none =
      let empty = alone_of front (length front + 1) refl (omega (arith, below)) in
      let whole : events ≡ ev ∷ [] = is ∙ ap (λ es. es ++ ev ∷ []) empty in
      (telling.out ev.row, PastBounds, TellsWhy.doubtful ev (subst (λ l. HasEvents e a p l (ev ∷ [])) up (subst (HasEvents e a p last) whole listed)) out refl refl)
  of_search last [] text status listed (IsWritten.ends up hold below told done) none = none (subst (λ l. HasEvents e a p l []) up listed)
  of_search last (ev ∷ events) text status listed (IsWritten.ends up hold below told done) none = absurd (omega (arith, below))

  rule_out : p.after ≡ None → HasEvents e a p None [] → RuleOut e a.comps p.held a.conjuncts
  rule_out first h row =
      let ev = event_of e a p.held h.ranges h.of_components row in
      let l = h.listed in
      Contains-nil ev.0 ((l.members ev.0).1 (subst (λ after. IsEvent value_order (property e a.conjuncts) h.ranges after ev.0) (sym first) ev.1, tt))

  -- without sides
  some_conjuncts : (beside : ℕ → List ResolvedTree) (m : List Bool) (cause : List ℕ)
      → (text : List ℕ) × TellsConjuncts f details file source a e p.held beside m cause text
  some_conjuncts beside m cause =
      let told = some_reported e a.comps p.held details beside a.conjuncts m in
      (told_lines f details file source a.comps (spellings e.globals) told.0 ++ no_binding_line f cause, ((λ i. whole), told.0, told.1, refl))

  by_cause : HasEvents e a p None [] → HasSome (EmptiedBy e a p.held) ⊎ (HasSome (RefutedBy e a p.held) ⊎ HasSome (RefutedTogetherBy e a p.held)) → CanTell
  by_cause none (inl (m, cause)) =
      (empty_lines f file source (chosen_of a.comps m) ++ no_binding_line f (codes "empty"), Done, TellsWhy.emptied m none cause refl refl)
  by_cause none (inr (inl (m, cause))) = let t = some_conjuncts nothing_beside m (codes "each alone") in (t.0, Done, TellsWhy.refuted m none cause t.1 refl)
  by_cause none (inr (inr (m, cause))) =
      let t = some_conjuncts (others_beside a.conjuncts m) m (codes "only together") in
      (t.0, Done, TellsWhy.refuted_together m none cause t.1 refl)

  pub some_told : p.after ≡ None → AllByRecursion (λ (c : Comp). IsTrue (one_bounds e.numbers e.globals (sets_of c.sets))) a.comps → CanTell
  some_told first bounded =
      let ranges = some_ranges e a.comps p.held bounded in
      let s = some_search e a ranges.0 p (Some 1) telling ranges.1 (omega arith) in
      of_search s.0 s.1 s.2 s.3 s.4 s.5 (λ none. by_cause none (some_cause e a.comps p.held ranges.0 ranges.1 a.conjuncts (rule_out first none)))
