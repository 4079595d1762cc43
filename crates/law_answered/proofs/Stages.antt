-- An answer of a request by its stages: at each it is refused, or goes on with what the next one stands on. Two answers are refused alike, or both tell of one search.
use Rattle.law_answered.proofs.Prelude.{Value, Comp, Defined, Schema, IsFinite, Environment, IsEnvironment, AreComplete, given_sets, Portion, portion, IsNoneOut, Status, AreHeld, Checks, HasSchema, HoldsNoValues, IsNamed, IsNamedRow, NamesNoRow, Request, RefusesRequest, RequestAnswer, stated, not_a_binding, not_held, AreSmall, numbers_of, IsAsked, subst, AreMessages, Message, messages_text, AreShown, NamesNoParts, not_components, row_after, ◌≡◌, ℕ, ◌⊎◌, List, [], Option, inl, inr, None, Some, TellsFaults, TellsInfinite, TellsMisfit, TellsNoSchema, TellsNumbers, TellsOut, AreMessagesAlike}
use Rattle.law_answered.proofs.NamedParts.{none_shown, one_list_shown}
use Rattle.law_answered.proofs.OneSearch.{clear_at, names_at, one_environment_at, one_held, one_named_row}
use Rattle.law_answered.proofs.OneSource.{one_checked, one_named}
use Rattle.law_answered.proofs.Refusals.{IfRefused, is_finite, no_misfit, not_out, one_failure, one_ill, one_infinite, one_large, one_misfit, one_no_schema, one_out, TellsPlace, well_typed}
use Rattle.law_answered.proofs.SmallNumbers.{small_not_too_large}

-- what is reported of a search
abbrev pub Telling : Type 1
Telling = List Defined → Schema → Environment → Portion → List ℕ → Status → Type 0

-- ---- the stages, the last one first

module _ (Tells : Telling) (r : Request) (file source text : List ℕ) (status : Status) where
  -- the messages of a refusal
  abbrev Refused : (List Message → Status → Type 0) → Type 0
  Refused R = AreMessages r.format file R text status

  -- what the request asks for is searched
  abbrev AtSearch : List Defined → Schema → Environment → Portion → Type 0
  AtSearch g a e p = Refused (TellsOut e a.comps) ⊎ (IsNoneOut e a.comps × Tells g a e p text status)

  abbrev AtHeldValues : List Defined → Schema → Environment → Option (List Value) → Type 0
  AtHeldValues g a e after = Refused (TellsPlace (HoldsNoValues e a.comps r.held) (not_held r.details)) ⊎ ((held : List (Option Value)) × AreHeld e a.comps r.held held
      × AtSearch g a e (portion (row_after r.only after) held))

  abbrev AtNamedRow : List Defined → Schema → Environment → (shown : List Comp) → Type 0
  AtNamedRow g a e shown = Refused (TellsPlace (NamesNoRow e shown r.after) (not_a_binding r.details))
      ⊎ ((after : Option (List Value)) × IsNamedRow e shown r.after after × AtHeldValues g a e after)

  abbrev AtComponents : List Defined → Schema → Environment → Type 0
  AtComponents g a e =
      Refused (TellsPlace (NamesNoParts a.comps r.only) not_components) ⊎ ((shown : List Comp) × AreShown a.comps r.only shown × AtNamedRow g a e shown)

  abbrev AtFiniteness : List Defined → Schema → Type 0
  AtFiniteness g a = Refused (TellsInfinite (numbers_of r.setting) g a r.details source) ⊎ (IsFinite (numbers_of r.setting) g a
      × ((e : Environment) × IsEnvironment g (stated g r.setting) (numbers_of r.setting) e × AtComponents g a e))

  abbrev AtSizes : List Defined → Schema → Type 0
  AtSizes g a = Refused (TellsMisfit r.details g (stated g r.setting)) ⊎ (AreComplete (given_sets g) (stated g r.setting) × AtFiniteness g a)

  abbrev AtNumbers : List Defined → Schema → Type 0
  AtNumbers g a = Refused (TellsNumbers (numbers_of r.setting)) ⊎ (AreSmall (numbers_of r.setting) × AtSizes g a)

  abbrev pub AtSchema : List Defined → Type 0
  AtSchema g = Refused (λ told status. TellsNoSchema r.details g told status r.name) ⊎ ((a : Schema) × IsNamed g r.name a × AtNumbers g a)

  abbrev pub AtTypes : Type 0
  AtTypes = Refused (TellsFaults r.details source) ⊎ ((g : List Defined) × Checks source g [] × AtSchema g)

  finite_for : (g : List Defined) (a : Schema) (e : Environment) → IsAsked r source g a e → IsFinite (numbers_of r.setting) g a
  finite_for g a e asked = subst (λ n. IsFinite n g a) asked.environment.3 asked.finite

  -- what stands at a later stage stands at the first
  at_finiteness : (g : List Defined) (a : Schema) → HasSchema source r.name g a → AreSmall (numbers_of r.setting) → AreComplete (given_sets g) (stated g r.setting) → AtFiniteness g a → AtTypes
  at_finiteness g a has small complete at = inr (g, has.checks, inr (a, has.named, inr (small, inr (complete, at))))

  at_components : (g : List Defined) (a : Schema) (e : Environment) → IsAsked r source g a e → AtComponents g a e → AtTypes
  at_components g a e asked at = at_finiteness g a asked.has_schema asked.small asked.complete (inr (finite_for g a e asked, (e, asked.environment, at)))

  -- each refusal stands at one of them
  refused_at : (told : List Message) → RefusesRequest r source told status → text ≡ messages_text r.format file told → AtTypes
  refused_at told (RefusesRequest.ill_typed g faults checks some messages bad) is =
      inl (told, record { globals = g; faults = faults; checks = checks; some = some; messages = messages; bad = bad }, is)
  refused_at told (RefusesRequest.no_schema g checks none message bad) is =
      inr (g, checks, inl (told, record { none = none; message = message; bad = bad }, is))
  refused_at told (RefusesRequest.large_numbers g a has large message bad) is = inr (g, has.checks, inr (a, has.named, inl (told, (large, message, bad), is)))
  refused_at told (RefusesRequest.bad_sizes g a fault has small refused some messages bad) is =
      inr (g, has.checks, inr (a, has.named, inr (small, inl (told, (fault, refused, (some, messages, bad)), is))))
  refused_at told (RefusesRequest.not_finite g a cause side has small complete first_cause beside messages bad) is =
      at_finiteness g a has small complete (inl (told, (cause, side, first_cause, beside, messages, bad), is))
  refused_at told (RefusesRequest.not_components g a e place asked none message bad) is =
      at_components g a e asked (inl (told, (none, place, message, bad), is))
  refused_at told (RefusesRequest.not_a_binding g a e shown place asked are none message bad) is =
      at_components g a e asked (inr (shown, are, inl (told, (none, place, message, bad), is)))
  refused_at told (RefusesRequest.holds_nothing g a e shown after place asked are named none message bad) is =
      at_components g a e asked (inr (shown, are, inr (after, named, inl (told, (none, place, message, bad), is))))
  refused_at told (RefusesRequest.declared_out g a e shown after held place c asked are named holds first_out there message past) is =
      at_components g a e asked (inr (shown, are, inr (after, named, inr (held, holds, inl (told, (place, first_out, (c, there, message, past)), is)))))

  -- and each answer
  pub staged : RequestAnswer Tells r file source text status → AtTypes
  staged (RequestAnswer.refused (told, refuses, is)) = refused_at told refuses is
  staged (RequestAnswer.granted g a e p search told) =
      let found = subst (λ after. AtSearch g a e (portion after p.held)) search.begins (inr (search.none_out, told)) in
      at_components g a e search.asked (inr (search.shown, search.are_shown, inr (search.after, search.named, inr (p.held, search.held, found))))

-- ---- two answers

no_named_row : (e : Environment) (comps : List Comp) (text : Option (List ℕ)) (after : Option (List Value)) → NamesNoRow e comps text → IsNamedRow e comps text after → ⊥
no_named_row e comps None after none named = none
no_named_row e comps (Some text) None none named = named
no_named_row e comps (Some text) (Some row) none named = none row named

no_held_values : (e : Environment) (comps : List Comp) (text : Option (List ℕ)) (held : List (Option Value)) → HoldsNoValues e comps text → AreHeld e comps text held → ⊥
no_held_values e comps None held none are = none
no_held_values e comps (Some text) held none are = none held are

-- what follows where both tell of one search that is granted
abbrev pub IfTold : (Tells Also : Telling) → Request → (source one two : List ℕ) → (s t : Status) → Type 0 → Type 0
IfTold Tells Also r source one two s t C =
    (g : List Defined) (a : Schema) (e : Environment) (p : Portion) → HasSchema source r.name g a → AreComplete (given_sets g) (stated g r.setting)
    → IsEnvironment g (stated g r.setting) (numbers_of r.setting) e → Tells g a e p one s → Also g a e p two t → C

module _ {C : Type 0} (Tells Also : Telling) (r : Request) (file source one two : List ℕ) (s t : Status)
    (refuse : IfRefused r.format r.details file source one two s t C)
    (tell : IfTold Tells Also r source one two s t C) where
  module _ (g : List Defined) (checks : Checks source g []) where
    module _ (a : Schema) (named : IsNamed g r.name a) (complete : AreComplete (given_sets g) (stated g r.setting)) where
      module _ (e : Environment) (is : IsEnvironment g (stated g r.setting) (numbers_of r.setting) e) where
        at_search : (p : Portion) → AtSearch Tells r file source one s g a e p → AtSearch Also r file source two t g a e p → C
        at_search p (inl x) (inl y) = refuse x.0 y.0 (one_out r.details source x.0 y.0 s t e a.comps x.1 y.1) x.2 y.2
        at_search p (inl x) (inr y) = absurd (not_out x.0 s e a.comps x.1 y.0)
        at_search p (inr x) (inl y) = absurd (not_out y.0 t e a.comps y.1 x.0)
        at_search p (inr x) (inr y) = tell g a e p (record { checks = checks; named = named }) complete is x.1 y.1

        at_values : (after : Option (List Value)) → AtHeldValues Tells r file source one s g a e after → AtHeldValues Also r file source two t g a e after → C
        at_values after (inl x) (inl y) =
            refuse x.0 y.0 (one_failure r.details source x.0 y.0 s t (HoldsNoValues e a.comps r.held) (not_held r.details)
            AreMessagesAlike.no_values x.1 y.1) x.2 y.2
        at_values after (inl x) (inr y) = absurd (no_held_values e a.comps r.held y.0 x.1.0 y.1)
        at_values after (inr x) (inl y) = absurd (no_held_values e a.comps r.held x.0 y.1.0 x.1)
        at_values after (inr x) (inr y) =
            let clear = clear_at source g [] (stated g r.setting) (numbers_of r.setting) e checks complete is in
            let held = one_held e a.comps r.held x.0 y.0 clear (names_at source g [] r.name a checks named) x.1 y.1 in
            at_search (portion (row_after r.only after) y.0)
            (subst (λ held. AtSearch Tells r file source one s g a e (portion (row_after r.only after) held)) held x.2) y.2

        at_row : (shown : List Comp) → AtNamedRow Tells r file source one s g a e shown → AtNamedRow Also r file source two t g a e shown → C
        at_row shown (inl x) (inl y) =
            refuse x.0 y.0 (one_failure r.details source x.0 y.0 s t (NamesNoRow e shown r.after) (not_a_binding r.details)
            AreMessagesAlike.no_binding x.1 y.1) x.2 y.2
        at_row shown (inl x) (inr y) = absurd (no_named_row e shown r.after y.0 x.1.0 y.1)
        at_row shown (inr x) (inl y) = absurd (no_named_row e shown r.after x.0 y.1.0 x.1)
        at_row shown (inr x) (inr y) =
            let row = one_named_row e shown r.after x.0 y.0 (clear_at source g [] (stated g r.setting) (numbers_of r.setting) e checks complete is) x.1 y.1 in
            at_values y.0 (subst (AtHeldValues Tells r file source one s g a e) row x.2) y.2

        at_shown : AtComponents Tells r file source one s g a e → AtComponents Also r file source two t g a e → C
        at_shown (inl x) (inl y) =
            refuse x.0 y.0 (one_failure r.details source x.0 y.0 s t (NamesNoParts a.comps r.only) not_components
            AreMessagesAlike.no_components x.1 y.1) x.2 y.2
        at_shown (inl x) (inr y) = absurd (none_shown a.comps r.only y.0 x.1.0 y.1)
        at_shown (inr x) (inl y) = absurd (none_shown a.comps r.only x.0 y.1.0 x.1)
        at_shown (inr x) (inr y) = at_row y.0 (subst (AtNamedRow Tells r file source one s g a e) (one_list_shown a.comps r.only x.0 y.0 x.1 y.1) x.2) y.2

      at_causes : AtFiniteness Tells r file source one s g a → AtFiniteness Also r file source two t g a → C
      at_causes (inl x) (inl y) = refuse x.0 y.0 (one_infinite r.details source x.0 y.0 s t (numbers_of r.setting) g a x.1 y.1) x.2 y.2
      at_causes (inl x) (inr y) = absurd (is_finite x.0 s (numbers_of r.setting) g a r.details source x.1 y.0)
      at_causes (inr x) (inl y) = absurd (is_finite y.0 t (numbers_of r.setting) g a r.details source y.1 x.0)
      at_causes (inr (_, (d, is, at))) (inr (_, (e, also, also_at))) =
          let environment = one_environment_at g (stated g r.setting) (numbers_of r.setting) d e complete is also in
          at_shown e also (subst (AtComponents Tells r file source one s g a) environment at) also_at

    at_sizes : (a : Schema) → IsNamed g r.name a → AtSizes Tells r file source one s g a → AtSizes Also r file source two t g a → C
    at_sizes a named (inl x) (inl y) = refuse x.0 y.0 (one_misfit r.details source x.0 y.0 s t g (stated g r.setting) x.1 y.1) x.2 y.2
    at_sizes a named (inl x) (inr y) = absurd (no_misfit x.0 s r.details g (stated g r.setting) x.1 y.0)
    at_sizes a named (inr x) (inl y) = absurd (no_misfit y.0 t r.details g (stated g r.setting) y.1 x.0)
    at_sizes a named (inr x) (inr y) = at_causes a named y.0 x.1 y.1

    at_numbers : (a : Schema) → IsNamed g r.name a → AtNumbers Tells r file source one s g a → AtNumbers Also r file source two t g a → C
    at_numbers a named (inl x) (inl y) = refuse x.0 y.0 (one_large r.details source x.0 y.0 s t (numbers_of r.setting) x.1 y.1) x.2 y.2
    at_numbers a named (inl x) (inr y) = absurd (small_not_too_large (numbers_of r.setting) y.0 x.1.0)
    at_numbers a named (inr x) (inl y) = absurd (small_not_too_large (numbers_of r.setting) x.0 y.1.0)
    at_numbers a named (inr x) (inr y) = at_sizes a named x.1 y.1

    at_schema : AtSchema Tells r file source one s g → AtSchema Also r file source two t g → C
    at_schema (inl x) (inl y) = refuse x.0 y.0 (one_no_schema r.details source x.0 y.0 s t g r.name x.1 y.1) x.2 y.2
    at_schema (inl x) (inr y) = absurd (x.1.none y.0 y.1)
    at_schema (inr x) (inl y) = absurd (y.1.none x.0 x.1)
    at_schema (inr x) (inr y) = at_numbers y.0 y.1 (subst (AtNumbers Tells r file source one s g) (one_named g r.name x.0 y.0 x.1 y.1) x.2) y.2

  at_types : AtTypes Tells r file source one s → AtTypes Also r file source two t → C
  at_types (inl x) (inl y) = refuse x.0 y.0 (one_ill r.details source x.0 y.0 s t x.1 y.1) x.2 y.2
  at_types (inl x) (inr y) = absurd (well_typed x.0 s r.details source y.0 x.1 y.1)
  at_types (inr x) (inl y) = absurd (well_typed y.0 t r.details source x.0 y.1 x.1)
  at_types (inr x) (inr y) = at_schema y.0 y.1 (subst (AtSchema Tells r file source one s) (one_checked source x.0 y.0 [] [] x.1 y.1).0 x.2) y.2

  pub both_answers : RequestAnswer Tells r file source one s → RequestAnswer Also r file source two t → C
  both_answers x y = at_types (staged Tells r file source one s x) (staged Also r file source two t y)
