-- Runs that follow each other make one.
use Rattle.law_answered.proofs.Prelude.{◌++◌, ◌↔◌, ◌∙◌, ◌∷◌, ◌≡◌, [], ap, append-nil, Bool, false, inr, length, List, map, None, Option, refl, Some, subst, sym, ℕ, length-map, flat_map-map, flat_map, Contains, Event, True, exact, value_order, Value, Defined, Schema, Environment, binding_text, spellings, behind, Portion, property, AreEventsUpTo, HasEvents, Hold, IsTestsLine, IsWritten, lines, Status, property_told, IsLineOf, IsSearch, Request, RequestAnswer, EndsLines, IsBefore, IsBinding, IsInDoubt, IsNotPast, ShowsBindings, AnswersRequest, IsGranted, ShowsEvents, limited, resumed, RunsMakeOne, together, Comp, Format, row_wording, Wording, wording, AreShown, row_after, TellsShown, Lines, Objects, Spelling, codes, row_text, AreHeld, IsNamedRow, total-law}
use Rattle.law_resumed.specs.{LinesAreRows}
use Rattle.law_answered.proofs.Joined.{as_events, both_listed, both_written, last_event}
use Rattle.law_answered.proofs.OneSearch.{listed_in}
use Rattle.law_answered.proofs.Shown.{binding_event, doubt_event, events_are_shown}
use Rattle.law_answered.proofs.WrittenRows.{with_truth}

-- ---- a run that pauses

-- what is reported of a row that is out is not that the limit is reached
abbrev TellsApart : {V : Type 0} → Wording V → Type 0
TellsApart {V} telling = (row : List V) → telling.out row ≡ telling.more → ⊥

not_more : (t : List ℕ) → codes "out of bounds at: " ++ t ≡ codes "more\n" → ⊥
not_more t e = cc

no_more_object : (t : List ℕ) → codes "{\"out of bounds at\": " ++ t ≡ codes "{\"more\": true}\n" → ⊥
no_more_object t e = cc

rows_apart : (f : Format) (ss : List Spelling) (comps : List Comp) → TellsApart (row_wording f ss comps)
rows_apart Lines ss comps row e = not_more (row_text Lines ss comps row ++ codes "\n") e
rows_apart Objects ss comps row e = no_more_object (row_text Objects ss comps row ++ codes "}\n") e

-- where the last line is `more`, as many rows as the limit are written, and the last of them is the last that was looked at
paused : {V : Type 0} (InDoubt : List V → Type 0) (telling : Wording V) (limit : Option ℕ) (rows : List (List V)) (last : Option (List V)) (final : List ℕ) (status : Status) (row : List V)
    → TellsApart telling → EndsLines (λ row. row) InDoubt telling limit rows last final status → final ≡ telling.more → last ≡ Some row
    → ((front : List (List V)) × (rows ≡ front ++ row ∷ [])) × (limit ≡ Some (length rows))
paused InDoubt telling limit rows last final status row apart (EndsLines.enough front r split up reached told done) more at =
    let same : r ≡ row = (let q : Some r ≡ Some row = sym up ∙ at in cc) in
    ((front, subst (λ x. rows ≡ front ++ x ∷ []) same split), reached)
paused InDoubt telling limit rows last final status row apart (EndsLines.out r up doubt below told past) more at = absurd (apart r (sym told ∙ more))
paused InDoubt telling limit rows last final status row apart (EndsLines.complete none below told done) more at = absurd (let q : None ≡ Some row = sym none ∙ at in cc)

-- ---- both runs

-- the same request with another named row and another limit
abbrev changed : Option (List ℕ) → Option ℕ → Request → Request
changed after limit r =
    record {
      name = r.name;
      setting = r.setting;
      after = after;
      held = r.held;
      only = r.only;
      limit = limit;
      tests = r.tests;
      details = r.details;
      format = r.format;
    }

module _ (resuming : LinesAreRows) (r : Request) (n : ℕ) (limit : Option ℕ) (file source : List ℕ) (g : List Defined) (a : Schema) (e : Environment) (p : Portion)
    (first second : List ℕ) (s t : Status) (run : ShowsBindings (limited (Some n) r) g a e p first s) (row : List Value) (granted : IsGranted r source g a e p)
    (all : r.only ≡ None) (untold : r.tests ≡ false) (more : run.final ≡ (wording r g a).more) (at : run.last ≡ Some row) where
  abbrev telling : Wording Value
  telling = wording r g a

  abbrev next : Request
  next = resumed (binding_text (spellings g) a.comps row) limit r

  as_many : ((front : List (List Value)) × (run.rows ≡ front ++ row ∷ [])) × (Some n ≡ Some (length run.rows))
  as_many = paused (IsInDoubt e a run.ranges p.after) telling (Some n) run.rows run.last run.final s row (rows_apart r.format (spellings g) a.comps) run.ending more at

  members : (x : List Value) → Contains run.rows x ↔ (IsBinding e a run.ranges p.after x × IsNotPast value_order (Some row) x)
  members = subst (λ last. (x : List Value) → Contains run.rows x ↔ (IsBinding e a run.ranges p.after x × IsNotPast value_order last x)) at run.members

  certain : (x : List Value) → IsInDoubt e a run.ranges p.after x → IsBefore value_order (Some row) x → ⊥
  certain = subst (λ last. (x : List Value) → IsInDoubt e a run.ranges p.after x → IsBefore value_order last x → ⊥) at run.certain

  abbrev events : List (Event Value)
  events = map (λ x. with_truth x True) run.rows

  as_found : AreEventsUpTo value_order (property e a.conjuncts) run.ranges p.after (Some row) events
      × ((x : Event Value) × Contains events x × (x.row ≡ row)) × Hold events
  as_found =
      as_events value_order total-law exact (property e a.conjuncts) run.ranges p.after (property_told e a.conjuncts) (IsBinding e a run.ranges p.after)
      (IsInDoubt e a run.ranges p.after)
      (binding_event e a run.ranges p.after) (doubt_event e a run.ranges p.after) run.rows as_many.0.0 row as_many.0.1 members run.ascending certain

  row_event : (x : Event Value) × Contains events x × (x.row ≡ row)
  row_event = as_found.1

  -- a search of the same request but for the named row and the limit
  searched : (text : Option (List ℕ)) (bound : Option ℕ) (shown : List Comp) (after : Option (List Value)) (start : Portion) → AreShown a.comps r.only shown
      → IsNamedRow e shown text after → start.after ≡ row_after r.only after → AreHeld e a.comps r.held start.held
      → IsSearch (changed text bound r) source g a e start
  searched text bound shown after start are named begins held =
      let asked = granted.asked in
      record {
        asked =
            record { has_schema = asked.has_schema; small = asked.small; complete = asked.complete; environment = asked.environment; finite = asked.finite };
        shown = shown;
        after = after;
        are_shown = are;
        named = named;
        begins = begins;
        held = held;
        none_out = granted.none_out;
      }

  -- the text of the last row names it
  named : IsLineOf e a.comps (binding_text (spellings g) a.comps row) row
  named =
      let has : HasEvents e a p (Some row) events = record { ranges = run.ranges; of_components = run.of_components; listed = as_found.0 } in
      let line_of = resuming r source g a e p (Some row) events row_event.0 granted has row_event.1 in
      let environment = granted.asked.environment in
      subst (λ h. IsLineOf e a.comps (binding_text (spellings h) a.comps row) row) environment.0
      (subst (λ x. IsLineOf e a.comps (binding_text (spellings e.globals) a.comps x) x) row_event.2 line_of)

  next_granted : IsGranted next source g a e (behind row p)
  next_granted =
      searched (Some (binding_text (spellings g) a.comps row)) limit a.comps (Some row) (behind row p)
      (subst (λ o. AreShown a.comps o a.comps) (sym all) refl) named
      (sym (ap (λ o. row_after o (Some row)) all)) granted.held

  no_tests : (tests : Bool) (start : Portion) (last : Option (List Value)) (counted : List ℕ) → tests ≡ false → IsTestsLine telling tests e a start last counted → counted ≡ []
  no_tests tests start last counted none told = subst (λ b. IsTestsLine telling b e a start last counted) none told

  module _ (shown : ShowsEvents next g a e (behind row p) second t) where
    there_listed : AreEventsUpTo value_order (property e a.conjuncts) run.ranges (Some row) shown.last shown.events
    there_listed = listed_in e a (behind row p) run.ranges run.of_components shown.last shown.events shown.listed

    both_have : HasEvents e a p shown.last (events ++ shown.events)
    both_have = record {
      ranges = run.ranges;
      of_components = run.of_components;
      listed =
          both_listed value_order total-law exact
          (property e a.conjuncts) run.ranges p.after row shown.last events shown.events as_found.0 there_listed row_event
          (last_event telling limit shown.events shown.last shown.lines t shown.ends);
    }

    limits : together (length events) limit ≡ together n limit
    limits = ap (λ k. together k limit) (length-map run.rows (λ x. with_truth x True) ∙ (let q : Some n ≡ Some (length run.rows) = as_many.1 in cc))

    both_end : IsWritten telling (together n limit) (events ++ shown.events) shown.last (lines telling events ++ shown.lines) t
    both_end = subst (λ l. IsWritten telling l (events ++ shown.events) shown.last (lines telling events ++ shown.lines) t) limits
        (both_written telling limit events shown.events shown.last shown.lines t as_found.2 shown.ends)

    text_of_both : flat_map telling.line run.rows ++ second ≡ (lines telling events ++ shown.lines) ++ []
    text_of_both =
        let none : shown.counted ≡ [] = no_tests r.tests (behind row p) shown.last shown.counted untold shown.numbered in
        let text : second ≡ shown.lines = shown.whole ∙ ap (λ c. shown.lines ++ c) none ∙ append-nil shown.lines in
        ap (λ u. flat_map telling.line run.rows ++ u) text ∙ ap (λ u. u ++ shown.lines) (sym (flat_map-map (λ (x : Event Value). telling.line x.row) (λ x. with_truth x True) run.rows))
        ∙ sym (append-nil (lines telling events ++ shown.lines))

    both_searched : IsSearch (limited (together n limit) r) source g a e p
    both_searched = searched r.after (together n limit) granted.shown granted.after p granted.are_shown granted.named granted.begins granted.held

    both_events : ShowsEvents (limited (together n limit) r) g a e p (flat_map telling.line run.rows ++ second) t
    both_events = record {
      last = shown.last;
      events = events ++ shown.events;
      lines = lines telling events ++ shown.lines;
      counted = [];
      listed = both_have;
      ends = both_end;
      numbered = subst (λ b. IsTestsLine telling b e a p shown.last []) (sym untold) refl;
      whole = text_of_both;
    }

    both_shown : AnswersRequest (limited (together n limit) r) file source (flat_map telling.line run.rows ++ second) t
    both_shown = inr (RequestAnswer.granted g a e p both_searched
        (subst (λ o. TellsShown o (limited (together n limit) r) g a e p (flat_map telling.line run.rows ++ second) t) (sym all) both_events))

pub runs_make_one : LinesAreRows → RunsMakeOne
runs_make_one resuming r n limit file source g a e p first second s t run row granted all untold more at answer =
    both_shown resuming r n limit file source g a e p first second s t run row granted all untold more at
    (events_are_shown (resumed (binding_text (spellings g) a.comps row) limit r) file source g a e (behind row p) second t all
    (next_granted resuming r n limit file source g a e p first second s t run row granted all untold more at) answer)
