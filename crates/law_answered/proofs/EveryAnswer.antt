-- Each request has an answer: it is refused at a stage, or what is asked for is searched.
use Rattle.law_answered.proofs.Prelude.{◌++◌, ◌∙◌, ◌∷◌, ◌≡◌, [], ap, inl, inr, IsTrue, List, None, Option, refl, Some, subst, sym, ℕ, AllByRecursion, Value, Comp, Defined, Schema, sets_of, Fault, one_bounds, Environment, AreComplete, given_sets, Portion, portion, IsNoneOut, Job, Check, Reach, Show, Why, HasLimit, IsBelow, Status, BadRequest, BadSpec, PastBounds, some_search, some_tests_line, AreHeld, check_status, Checks, HasSchema, IsAsked, IsLimited, IsNamedRow, IsSearch, JobAnswer, Request, RefusesRequest, RequestAnswer, ShowsEvents, TellsWhy, size_fault_messages, stated, wants_details, declared_out, no_schema_message, not_a_binding, not_held, numbers_too_large, AreSmall, Cited, text_fault_message, EveryRequestIsAnswered, EverySourceIsRead, numbers_of, IsFinite, format_of, listed, Message, messages_text, wording, AreShown, not_components, row_after, ShowsParts, TellsShown, AreRanges, complete_or_refused, first_out_or_none, some_environment, some_ranges}
use Rattle.law_answered.proofs.HeldLines.{every_held_line_is_judged, every_line_is_judged}
use Rattle.law_decided.proofs.Items.{text_has_verdict}
use Rattle.zf_command.specs.{IsBare}
use Rattle.zf_scan.specs.{nowhere}
use Rattle.law_answered.proofs.EveryName.{finite_or_told, named_or_none}
use Rattle.law_answered.proofs.FaultMessages.{some_messages}
use Rattle.law_answered.proofs.NamedParts.{shown_or_none}
use Rattle.law_answered.proofs.OneParts.{some_shown_parts}
use Rattle.law_answered.proofs.SomeExploration as explorations
use Rattle.law_answered.proofs.Reasons.{some_told}
use Rattle.law_answered.proofs.SmallNumbers.{small_or_too_large}

-- ---- answers of a request, the last stage first

-- there is something to tell of each search that is granted
abbrev CanBeTold : (Tells : List Defined → Schema → Environment → Portion → List ℕ → Status → Type 0) → Request → (source : List ℕ) → Type 0
CanBeTold Tells r source = (g : List Defined) (a : Schema) (e : Environment) (p : Portion) → IsSearch r source g a e p → (text : List ℕ) × (status : Status) × Tells g a e p text status

module _ (Tells : List Defined → Schema → Environment → Portion → List ℕ → Status → Type 0) (r : Request) (file source : List ℕ) (can_be_told : CanBeTold Tells r source) where
  abbrev IsAnswered : Type 0
  IsAnswered = (text : List ℕ) × (status : Status) × RequestAnswer Tells r file source text status

  refused : (told : List Message) (status : Status) → RefusesRequest r source told status → IsAnswered
  refused told status h = (messages_text r.format file told, status, RequestAnswer.refused (told, h, refl))

  module _ (g : List Defined) where
    module _ (a : Schema) where
      module _ (e : Environment) (asked : IsAsked r source g a e) where
        module _ (shown : List Comp) (are_shown : AreShown a.comps r.only shown) where
          some_told_of : (after : Option (List Value)) (held : List (Option Value)) → IsNamedRow e shown r.after after → AreHeld e a.comps r.held held → IsNoneOut e a.comps → IsAnswered
          some_told_of after held named holds none_out =
              let p = portion (row_after r.only after) held in
              let search : IsSearch r source g a e p =
              record { asked = asked; shown = shown; after = after; are_shown = are_shown; named = named; begins = refl; held = holds; none_out = none_out } in
              let told = can_be_told g a e p search in
              (told.0, told.1, RequestAnswer.granted g a e p search told.2)

          some_at_sets : (after : Option (List Value)) (held : List (Option Value)) → IsNamedRow e shown r.after after → AreHeld e a.comps r.held held → IsAnswered
          some_at_sets after held named holds = elim (first_out_or_none e a.comps) [
            | inl out ↦ let here = out.1.here in
                refused (declared_out here.0.name ∷ []) PastBounds
                (RefusesRequest.declared_out g a e shown after held out.0 here.0 asked are_shown named holds out.1 here.1 refl refl)
            | inr none ↦ some_told_of after held named holds none
          ]

          some_at_values : (after : Option (List Value)) → IsNamedRow e shown r.after after → IsAnswered
          some_at_values after named = elim (every_held_line_is_judged e a.comps r.held) [
            | inl held ↦ some_at_sets after held.0 named held.1
            | inr none ↦ refused (not_held r.details (0, []) ∷ []) BadRequest (RefusesRequest.holds_nothing g a e shown after (0, []) asked are_shown named none refl refl)
          ]

          some_at_row : IsAnswered
          some_at_row = elim (every_line_is_judged e shown r.after) [
            | inl named ↦ some_at_values named.0 named.1
            | inr none ↦ refused (not_a_binding r.details (0, []) ∷ []) BadRequest (RefusesRequest.not_a_binding g a e shown (0, []) asked are_shown none refl refl)
          ]

        some_at_components : IsAnswered
        some_at_components = elim (shown_or_none a.comps r.only) [
          | inl shown ↦ some_at_row shown.0 shown.1
          | inr none ↦ refused (not_components 0 ∷ []) BadRequest (RefusesRequest.not_components g a e 0 asked none refl refl)
        ]

      some_at_finiteness : HasSchema source r.name g a → AreSmall (numbers_of r.setting) → AreComplete (given_sets g) (stated g r.setting) → IsAnswered
      some_at_finiteness has small complete = elim (finite_or_told (numbers_of r.setting) g a r.details source) [
        | inl finite ↦
            let e = some_environment g (stated g r.setting) (numbers_of r.setting) complete in
            let here = subst (λ n. IsFinite n g a) (sym e.1.3) finite in
            some_at_components e.0 (record { has_schema = has; small = small; complete = complete; environment = e.1; finite = here })
        | inr ((messages, status), (cause, side, first_cause, beside, told, bad)) ↦
            refused messages status (RefusesRequest.not_finite g a cause side has small complete first_cause beside told bad)
      ]

      some_at_sizes : HasSchema source r.name g a → AreSmall (numbers_of r.setting) → IsAnswered
      some_at_sizes has small = elim (complete_or_refused (given_sets g) (stated g r.setting)) [
        | inl complete ↦ some_at_finiteness has small complete
        | inr bad ↦ refused (size_fault_messages r.details g (stated g r.setting) bad.0) BadRequest
            (RefusesRequest.bad_sizes g a bad.0 has small bad.1 bad.2 refl refl)
      ]

      some_at_numbers : HasSchema source r.name g a → IsAnswered
      some_at_numbers has = elim (small_or_too_large (numbers_of r.setting)) [
        | inl small ↦ some_at_sizes has small
        | inr large ↦ refused (numbers_too_large ∷ []) BadRequest (RefusesRequest.large_numbers g a has large refl refl)
      ]

    some_at_schema : Checks source g [] → IsAnswered
    some_at_schema checks = elim (named_or_none g r.name) [
      | inl named ↦ some_at_numbers named.0 (record { checks = checks; named = named.1 })
      | inr none ↦ refused (no_schema_message r.details g r.name ∷ []) BadRequest (RefusesRequest.no_schema g checks none refl refl)
    ]

  some_at_types : (g : List Defined) (faults : List Fault) → Checks source g faults → IsAnswered
  some_at_types g [] checks = some_at_schema g checks
  some_at_types g (fault ∷ faults) checks =
      let some = some_messages r.details source (fault ∷ faults) in
      refused some.0 BadSpec (RefusesRequest.ill_typed g (fault ∷ faults) checks (λ none. cc) some.1 refl)

-- ---- answers of a job

limited_of : (limit : Option ℕ) → HasLimit limit → IsBelow limit 0
limited_of None h = tt
limited_of (Some limit) h = h

-- components that are bounded among the globals are so in the environment
bounded_in : (r : Request) (source : List ℕ) (g : List Defined) (a : Schema) (e : Environment) (p : Portion) → IsSearch r source g a e p
    → AllByRecursion (λ (c : Comp). IsTrue (one_bounds e.numbers e.globals (sets_of c.sets))) a.comps
bounded_in r source g a e p search =
    let asked = search.asked in
    let finite = asked.finite in
    let environment = asked.environment in
    subst (λ h. AllByRecursion (λ (c : Comp). IsTrue (one_bounds e.numbers h (sets_of c.sets))) a.comps) (sym environment.0) finite.bounded

shown_events : (r : Request) (source : List ℕ) → HasLimit r.limit → CanBeTold (ShowsEvents r) r source
shown_events r source limited g a e p search =
    let ranges = some_ranges e a.comps p.held (bounded_in r source g a e p search) in
    let s = some_search e a ranges.0 p r.limit (wording r g a) ranges.1 (limited_of r.limit limited) in
    let counted = some_tests_line e a ranges.0 p s.0 (wording r g a) r.tests ranges.1 in
    (s.2 ++ counted.0, s.3, record { last = s.0; events = s.1; lines = s.2; counted = counted.0; listed = s.4; ends = s.5; numbered = counted.1; whole = refl })

shown_parts : (names : List ℕ) (r : Request) (source : List ℕ) → r.only ≡ Some names → CanBeTold (ShowsParts names r) r source
shown_parts names r source some g a e p search =
    let ranges = some_ranges e a.comps p.held (bounded_in r source g a e p search) in
    of (subst (λ o. AreShown a.comps o search.shown) some search.are_shown) ranges
  where
    of : AreShown a.comps (Some names) search.shown → (ranges : List (List Value)) × AreRanges e a.comps p.held ranges → (text : List ℕ) × (status : Status) × ShowsParts names r g a e p text status
    of (places, named, is) (ranges, are) = some_shown_parts names r g a e p ranges places search.after are named (subst (λ cs. IsNamedRow e cs r.after search.after) is search.named)

shown : (only : Option (List ℕ)) (r : Request) (source : List ℕ) → r.only ≡ only → HasLimit r.limit → CanBeTold (TellsShown only r) r source
shown None r source is limited = shown_events r source limited
shown (Some names) r source is limited = shown_parts names r source is

-- no row is named, so the search begins at the first one
first_row : (r : Request) (source : List ℕ) (g : List Defined) (a : Schema) (e : Environment) (p : Portion) → IsBare r → IsSearch r source g a e p → p.after ≡ None
first_row r source g a e p plain search = search.begins ∙ ap (λ o. row_after o search.after) plain.1 ∙ subst (λ t. IsNamedRow e search.shown t search.after) plain.0 search.named

explained : (r : Request) (file source : List ℕ) → IsBare r → CanBeTold (TellsWhy r.format r.details file source) r source
explained r file source plain g a e p search =
    some_told r.format r.details file source g a e p (first_row r source g a e p plain search) (bounded_in r source g a e p search)

some_of_job : (job : Job) (file source : List ℕ) → IsLimited job → (g : List Defined) (faults : List Fault) → Checks source g faults
    → (text : List ℕ) × (status : Status) × JobAnswer job file source text status
some_of_job (Check types details format) file source limited g faults checks =
    let some = some_messages details source faults in
    (messages_text format file some.0 ++ listed types g, check_status faults, (g, faults, checks, (some.0, some.1, refl), refl))
some_of_job (Show r) file source limited g faults checks = some_at_types (TellsShown r.only r) r file source (shown r.only r source refl limited) g faults checks
some_of_job (Reach x) file source limited g faults checks = explorations.some_at_types x file source limited g faults checks
some_of_job (Why r) file source plain g faults checks = some_at_types (TellsWhy r.format r.details file source) r file source (explained r file source plain) g faults checks

pub every_request_is_answered : EverySourceIsRead → EveryRequestIsAnswered
every_request_is_answered every_source job file source limited = elim (every_source source) [
  | inl read ↦
      let judged = text_has_verdict read.0 in
      let answer = some_of_job job file source limited judged.0 judged.1 (record { boxes = read.0; reads = read.1; judged = judged.2 }) in
      (answer.0, answer.1, inr answer.2)
  | inr unread ↦
      let none : Cited = record { symbol = []; other = []; span = nowhere; like = []; across = nowhere; entry = []; others = [] } in
      let told = text_fault_message (wants_details job) source unread.0 none ∷ [] in
      (messages_text (format_of job) file told, BadSpec, inl (told, (unread.0, none, unread.1, refl, refl), refl))
]
