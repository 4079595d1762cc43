-- The steps before the first binding make answers: refusals, in their order.
use Rattle.zf_answers.proofs.Prelude.{◌==◌, ◌∙◌, ◌∷◌, ◌≡◌, ◌⊎◌, [], ap, arith, Bool, Err, false, IfErr, inl, inr, length, List, map, None, Ok, Option, refl, Result, Some, subst, sym, true, ℕ, eqb-true, Value, Comp, Defined, Schema, AreWellTyped, Environment, spellings, Spelling, Status, AreHeld, Checks, HasSchema, IsAsked, IsNamed, IsNamedRow, Request, RefusesRequest, numbers_of, stated, UnreadAnswer, AnswersRequest, IfAnswered, IsRefused, IsUnfit, IsTextFault, AreSmall, TellsInfinite, TellsMisfit, TellsNoSchema, TellsNumbers, TellsNoRow, TellsNoValues, TellsBounds, TellsMisnamed, TellsOut, TellsPlace, TellsPlaceHeld, Cited, Message, Stop, Answered, OutOfMemory, IsFinite, Fault, AreComplete, given_sets, IsEnvironment, AreClear, binding_text, AreShown, NamesParts, row_after, comps_at}
use Rattle.zf_scan.specs.declared.fault.TextFault.{TextFault}
use Rattle.zf_scan.specs.{IsWantOfMemory}
use Rattle.zf_parse.specs.{RefusesSource}
use Rattle.zf_checker.proofs.WellTyped.{globals_well_typed}
use Rattle.zf_read.specs.{HaveClearNames, IsHeldLine, IsNoHeldLine, IsNoLine}
use Rattle.law_names.proofs.Clear.{components_clear, globals_clear}

pub weaker : (stop : Stop) {P Q : List Message → Status → Type 0} → ((told : List Message) (status : Status) → P told status → Q told status)
    → IfAnswered stop P → IfAnswered stop Q
weaker (Answered told status) f h = f told status h
weaker OutOfMemory f h = tt

pub weaker_err : {A : Type 0} (r : Result A Stop) (P Q : Stop → Type 0) → ((stop : Stop) → P stop → Q stop) → IfErr r P → IfErr r Q
weaker_err (Ok x) P Q f h = tt
weaker_err (Err stop) P Q f h = f stop h

pub unread_answers : (details : Bool) (source : List ℕ) (fault : TextFault) (about : Cited) (stop : Stop) → IsWantOfMemory fault ⊎ RefusesSource source fault
    → IfAnswered stop (IsTextFault details source fault about) → IfAnswered stop (UnreadAnswer details source)
unread_answers details source fault about OutOfMemory (inl memory) h = tt
unread_answers details source fault about OutOfMemory (inr refuses) h = tt
unread_answers details source fault about (Answered told status) (inl memory) h = absurd (h.0 memory.0)
unread_answers details source fault about (Answered told status) (inr refuses) h = (fault, about, refuses, h.1, h.2)

-- a source that is not read or not well typed is answered so, whatever else is asked for
unfit_refused : (r : Request) (source : List ℕ) (told : List Message) (status : Status) → IsUnfit r.details source told status → IsRefused r source told status
unfit_refused r source told status (inl unread) = inl unread
unfit_refused r source told status (inr ill) = inr (RefusesRequest.ill_typed ill.globals ill.faults ill.checks ill.some ill.messages ill.bad)

pub unfit_answers : (r : Request) (source : List ℕ) (stop : Stop) → IfAnswered stop (IsUnfit r.details source) → AnswersRequest r source stop
unfit_answers r source stop told = weaker stop (unfit_refused r source) told

pub some_of : {A : Type 0} (xs : List A) (b : Bool) → b ≡ false → b ≡ (length xs == 0) → xs ≡ [] → ⊥
some_of xs b unset test none =
    let both : false ≡ true = sym unset ∙ test ∙ ap (λ xs. length xs == 0) none in
    cc

-- what is made of each of some is not nothing
pub some_mapped : {A B : Type 0} (f : A → B) (xs : List A) → (xs ≡ [] → ⊥) → map f xs ≡ [] → ⊥
some_mapped f [] some e = some refl
some_mapped f (x ∷ xs) some e = cc

pub none_of : {A : Type 0} (xs : List A) (b : Bool) → b ≡ true → b ≡ (length xs == 0) → xs ≡ []
none_of [] b set test = refl
none_of (x ∷ xs) b set test =
    let some : (length (x ∷ xs) == 0) ≡ true = sym test ∙ set in
    let l : length (x ∷ xs) ≡ 0 = eqb-true (length (x ∷ xs)) 0 some in absurd (omega (arith, l))

-- what a source that is read and checked defines is well typed
pub well_typed : (source : List ℕ) (globals : List Defined) {faults : List Fault} → Checks source globals faults → AreWellTyped globals
well_typed source globals {faults} checks = globals_well_typed checks.boxes globals faults checks.judged

-- where spellings are clear, a text that is no line names no row
pub no_row_told : (ss : List Spelling) (e : Environment) (comps : List Comp) (text bytes : List ℕ) (stop : Stop) (details : Bool) (misfit : ℕ × List ℕ) → ss ≡ spellings e.globals → bytes ≡ text → IsNoLine ss e comps bytes
    → IfAnswered stop (TellsPlace details misfit) → AreClear ss e.sizes → IfAnswered stop (TellsNoRow details e comps (Some text))
unfolding IsNoLine
no_row_told ss e comps text bytes stop details misfit same is none told clear =
    weaker stop (λ written status t. ((λ row line. none clear row line.0 (is ∙ line.1 ∙ ap (λ k. binding_text k comps row) (sym same))), (misfit, t))) told

-- what a text is read to hold it holds
pub line_told : (ss : List Spelling) (e : Environment) (comps : List Comp) (text bytes : List ℕ) (held : List (Option Value)) → ss ≡ spellings e.globals
    → bytes ≡ text → IsHeldLine ss e comps bytes held
    → AreHeld e comps (Some text) held
line_told ss e comps text bytes held same is h =
    subst (λ l. IsHeldLine (spellings e.globals) e comps l held) is (subst (λ k. IsHeldLine k e comps bytes held) same h)

-- where spellings and names are clear, a text that is read as the line of no components holds no values
pub no_values_told : (ss : List Spelling) (e : Environment) (comps : List Comp) (text bytes : List ℕ) (stop : Stop) (details : Bool) (misfit : ℕ × List ℕ) → ss ≡ spellings e.globals
    → bytes ≡ text → IsNoHeldLine ss e comps bytes
    → IfAnswered stop (TellsPlaceHeld details misfit) → AreClear ss e.sizes → HaveClearNames comps → IfAnswered stop (TellsNoValues details e comps (Some text))
unfolding IsNoHeldLine
no_values_told ss e comps text bytes stop details misfit same is none told clear names =
    weaker stop (λ written status t. (
      (λ held line. none clear names held (subst (λ l. IsHeldLine ss e comps l held) (sym is) (subst (λ k. IsHeldLine k e comps text held) (sym same) line))),
      (misfit, t),
    )) told

-- the spellings of what is asked for are clear
pub clear_of : (r : Request) (source : List ℕ) (a : Schema) (e : Environment) → IsAsked r source e.globals a e → (ss : List Spelling) → ss ≡ spellings e.globals → AreClear ss e.sizes
clear_of r source a e is ss same =
    let checks = is.has_schema.checks in
    subst (λ k. AreClear k e.sizes) (sym same) (globals_clear checks.boxes source e.globals [] (stated e.globals r.setting)
    (numbers_of r.setting) e checks.reads checks.judged is.complete is.environment)

-- so are the names of its components
pub names_of : (r : Request) (source : List ℕ) (a : Schema) (e : Environment) → IsAsked r source e.globals a e → HaveClearNames a.comps
names_of r source a e is =
    let has = is.has_schema in
    let checks = has.checks in
    components_clear source e.globals a (record { boxes = checks.boxes; faults = []; place = has.named.0; name = r.name; reads = checks.reads; checked = checks.judged; there = has.named.1 })

-- ---- the refusals of a schema

pub no_schema_answers : (r : Request) (source : List ℕ) (g : List Defined) → Checks source g [] → (stop : Stop)
    → IfAnswered stop (λ told status. TellsNoSchema r.details g told status r.name) → AnswersRequest r source stop
no_schema_answers r source g checks stop h = weaker stop (λ told status t. inr (RefusesRequest.no_schema g checks t.none t.message t.bad)) h

module _ (r : Request) (source : List ℕ) (g : List Defined) (a : Schema) where
  pub has_schema : Checks source g [] → IsNamed g r.name a → HasSchema source r.name g a
  has_schema checks named = record { checks = checks; named = named }

  pub numbers_answer : HasSchema source r.name g a → (stop : Stop) → IfAnswered stop (TellsNumbers (numbers_of r.setting)) → AnswersRequest r source stop
  numbers_answer has stop h = weaker stop (λ told status t. inr (RefusesRequest.large_numbers g a has t.0 t.1 t.2)) h

  pub misfit_answers : HasSchema source r.name g a → AreSmall (numbers_of r.setting) → (stop : Stop)
      → IfAnswered stop (TellsMisfit r.details g (stated g r.setting)) → AnswersRequest r source stop
  misfit_answers has small stop h = weaker stop (λ told status t. inr (RefusesRequest.bad_sizes g a t.0 has small t.1 t.2.0 t.2.1 t.2.2)) h

  pub infinite_answers : HasSchema source r.name g a → AreSmall (numbers_of r.setting) → AreComplete (given_sets g) (stated g r.setting) → (stop : Stop)
      → IfAnswered stop (TellsInfinite (numbers_of r.setting) g a r.details source) → AnswersRequest r source stop
  infinite_answers has small complete stop h = weaker stop (λ told status t. inr (RefusesRequest.not_finite g a t.0 t.1 has small complete t.2 t.3 t.4 t.5)) h

  -- the same of the globals and the numbers of this environment
  pub infinite_here : (e : Environment) → IsEnvironment g (stated g r.setting) (numbers_of r.setting) e → (stop : Stop)
      → IfAnswered stop (TellsInfinite e.numbers e.globals a r.details source) → IfAnswered stop (TellsInfinite (numbers_of r.setting) g a r.details source)
  infinite_here e is stop h =
      subst (λ n. IfAnswered stop (TellsInfinite n g a r.details source)) is.3
      (subst (λ (h : List Defined). IfAnswered stop (TellsInfinite e.numbers h a r.details source)) is.0 h)

  -- the schema is asked for in this environment
  pub asked : (e : Environment) → HasSchema source r.name g a → AreSmall (numbers_of r.setting) → AreComplete (given_sets g) (stated g r.setting)
      → IsEnvironment g (stated g r.setting) (numbers_of r.setting) e → IsFinite e.numbers e.globals a → IsAsked r source e.globals a e
  asked e has small complete is ends = subst (λ h. IsAsked r source h a e) (sym is.0)
      (record { has_schema = has; small = small; complete = complete; environment = is; finite = subst (λ h. IsFinite e.numbers h a) is.0 ends })

  module _ (e : Environment) (is : IsAsked r source g a e) where
    pub no_values_answers : (shown : List Comp) (after : Option (List Value)) → AreShown a.comps r.only shown → IsNamedRow e shown r.after after
        → (stop : Stop) → IfAnswered stop (TellsNoValues r.details e a.comps r.held) → AnswersRequest r source stop
    no_values_answers shown after are named stop h =
        weaker stop (λ told status t. inr (RefusesRequest.holds_nothing g a e shown after t.1.0 is are named t.0 t.1.1.0 t.1.1.1)) h

    bounds_refused : (shown : List Comp) → AreShown a.comps r.only shown → (told : List Message) (status : Status)
        → TellsBounds e a.comps shown r told status → IsRefused r source told status
    bounds_refused shown are told status (inl t) = inr (RefusesRequest.not_a_binding g a e shown t.1.0 is are t.0 t.1.1.0 t.1.1.1)
    bounds_refused shown are told status (inr (after, named, t)) = inr (RefusesRequest.holds_nothing g a e shown after t.1.0 is are named t.0 t.1.1.0 t.1.1.1)

    misnamed_refused : (told : List Message) (status : Status) → TellsMisnamed e a.comps r told status → IsRefused r source told status
    misnamed_refused told status (inl t) = inr (RefusesRequest.not_components g a e t.1.0 is t.0 t.1.1 t.1.2)
    misnamed_refused told status (inr (shown, are, t)) = bounds_refused shown are told status t

    pub misnamed_answers : (stop : Stop) → IfAnswered stop (TellsMisnamed e a.comps r) → AnswersRequest r source stop
    misnamed_answers stop h = weaker stop misnamed_refused h

    pub out_answers : (shown : List Comp) (after : Option (List Value)) (held : List (Option Value)) → AreShown a.comps r.only shown
        → IsNamedRow e shown r.after after → AreHeld e a.comps r.held held → (stop : Stop)
        → IfAnswered stop (TellsOut e a.comps) → AnswersRequest r source stop
    out_answers shown after held are named holds stop h =
        weaker stop (λ told status t. inr (RefusesRequest.declared_out g a e shown after held t.0 t.2.0 is are named holds t.1 t.2.1 t.2.2 t.2.3)) h

-- ---- where all components are shown, or some

module _ (r : Request) (e : Environment) (comps : List Comp) where
  pub all_shown : r.only ≡ None → AreShown comps r.only comps
  all_shown none = subst (λ o. AreShown comps o comps) (sym none) refl

  pub some_shown : (names places : List ℕ) → r.only ≡ Some names → NamesParts comps names places → AreShown comps r.only (comps_at comps places)
  some_shown names places some named = subst (λ o. AreShown comps o (comps_at comps places)) (sym some) (places, named, refl)

  -- the search of all comes after the row that is named, and that of some after none
  pub after_all : r.only ≡ None → (after : Option (List Value)) → after ≡ row_after r.only after
  after_all none after = sym (ap (λ o. row_after o after) none)

  pub after_some : (names : List ℕ) → r.only ≡ Some names → (after : Option (List Value)) → None ≡ row_after r.only after
  after_some names some after = sym (ap (λ o. row_after o after) some)
