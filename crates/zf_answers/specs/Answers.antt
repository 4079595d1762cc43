-- What is answered of a source, by the first case that applies: by `check`, by `why`, and where a request about a schema is refused.
use Rattle.std.specs.Prelude.{◌≡◌, ◌≢◌, ℕ, Bool, if◌then◌else◌, List, [], ◌∷◌, ◌++◌, Option, Some, None, IsSomeAnd, slice_get, MatchOption}
use Rattle.zf_answers.specs.Prelude.{Request, Format, NotFinite, causes, IsFinite, TextFault, RefusesSource, Comp, Defined, Fault, Schema, first, Value, SizeFault, OutOfMemory, AreComplete, Environment, given_sets, IsEnvironment, IsRefusal, IsRow, Portion, IsFirstOut, IsNoneOut, binding_text, spellings, IsHeldLine, Status, Done, BadSpec, BadRequest, PastBounds, Message, messages_text, AreFaultMessages, Cited, IsReportedBeside, no_schema_message, not_finite_message, not_held, numbers_too_large, text_fault_message}
use Rattle.zf_checker.specs.{listing}
use Rattle.zf_messages.specs.Texts as messages
use Rattle.zf_answers.specs.Numbers.{AreSmall, AreTooLarge}
use Rattle.zf_answers.specs.Only.{AreShown, NamesNoParts}
use Rattle.zf_answers.specs.Reasons.{TellsWhy}
use Rattle.zf_answers.specs.Settings.{AreMessages, Checks, HasSchema, is_mended, IsNamed, numbers_of, size_fault_messages, stated}

-- ---- `check`

-- a text with a fault is a bad specification
abbrev pub check_status : List Fault → Status
check_status [] = Done
check_status (fault ∷ faults) = BadSpec

-- what a text defines, if that is asked for
abbrev pub listed : (types : Bool) → List Defined → List ℕ
listed types globals = if types then listing globals else []

-- the messages of the faults in this format, and the listing
abbrev pub IsCheckText : (types details : Bool) → Format → (file source : List ℕ) → List Defined → List Fault → (text : List ℕ) → Type 0
IsCheckText types details format file source globals faults text =
    (told : List Message) × AreFaultMessages details source faults told × (text ≡ messages_text format file told ++ listed types globals)

-- what `check` tells of a source that is read
abbrev pub CheckAnswer : (types details : Bool) → Format → (file source text : List ℕ) → Status → Type 0
CheckAnswer types details format file source text status =
    (globals : List Defined) × (faults : List Fault) × Checks source globals faults × IsCheckText types details format file source globals faults text × (status ≡ check_status faults)

-- ---- what `show` and `why` are asked for

-- the schema that is asked for is finite, and this is the environment at the stated sizes with the stated end of the numbers
pub record IsAsked (r : Request) (source : List ℕ) (globals : List Defined) (a : Schema) (e : Environment) : Type 0 where
  pub has_schema : HasSchema source r.name globals a
  pub small : AreSmall (numbers_of r.setting)
  pub complete : AreComplete (given_sets globals) (stated globals r.setting)
  pub environment : IsEnvironment globals (stated globals r.setting) (numbers_of r.setting) e
  pub finite : IsFinite e.numbers globals a

-- the text is the line of this row of the schema's types
abbrev pub IsLineOf : Environment → List Comp → List ℕ → List Value → Type 0
IsLineOf e comps text row = IsRow e comps row × (text ≡ binding_text (spellings e.globals) comps row)

-- the row of these components that the lines come after, if one is named
abbrev pub IsNamedRow : Environment → List Comp → Option (List ℕ) → Option (List Value) → Type 0
IsNamedRow e comps named after = MatchOption named (after ≡ None) (λ text. IsSomeAnd after (IsLineOf e comps text))

-- a text is given that is the line of no such row
abbrev pub NamesNoRow : Environment → List Comp → Option (List ℕ) → Type 0
NamesNoRow e comps named = IsSomeAnd named (λ text. (row : List Value) → IsLineOf e comps text row → ⊥)

-- the values that are held, by the components' places, if a line of some components is given
abbrev pub AreHeld : Environment → List Comp → Option (List ℕ) → List (Option Value) → Type 0
AreHeld e comps named held = MatchOption named (held ≡ []) (λ text. IsHeldLine (spellings e.globals) e comps text held)

-- a text is given that is no such line
abbrev pub HoldsNoValues : Environment → List Comp → Option (List ℕ) → Type 0
HoldsNoValues e comps named = IsSomeAnd named (λ text. (held : List (Option Value)) → IsHeldLine (spellings e.globals) e comps text held → ⊥)

-- the row that the search comes after: where some components alone are shown, none
abbrev pub row_after : (only : Option (List ℕ)) → Option (List Value) → Option (List Value)
row_after None after = after
row_after (Some names) after = None

-- the search goes over the events of the schema after that row that have the values which are held, and no declared set is out
pub record IsSearch (r : Request) (source : List ℕ) (globals : List Defined) (a : Schema) (e : Environment) (p : Portion) : Type 0 where
  pub asked : IsAsked r source globals a e
  pub shown : List Comp
  pub after : Option (List Value)
  pub are_shown : AreShown a.comps r.only shown
  pub named : IsNamedRow e shown r.after after
  pub begins : p.after ≡ row_after r.only after
  pub held : AreHeld e a.comps r.held p.held
  pub none_out : IsNoneOut e a.comps

-- ---- refusals

-- what is reported of a source with a fault of its text. Which fault of the grammar is reported, on which line, and which symbols any fault is about, is open.
abbrev pub UnreadAnswer : (details : Bool) → (source : List ℕ) → List Message → Status → Type 0
UnreadAnswer details source told status =
    (fault : TextFault) × (about : Cited) × RefusesSource source fault × (told ≡ text_fault_message details source fault about ∷ []) × (status ≡ BadSpec)

-- A request is refused for a source that is read, by the first case that applies. These messages say so.
pub data RefusesRequest (r : Request) (source : List ℕ) (told : List Message) (status : Status) : Type 0 where
  ill_typed : (globals : List Defined) (faults : List Fault) → Checks source globals faults → faults ≢ [] → AreFaultMessages r.details source faults told
      → status ≡ BadSpec → RefusesRequest r source told status
  no_schema : (globals : List Defined) → Checks source globals [] → ((a : Schema) → IsNamed globals r.name a → ⊥) → told ≡ no_schema_message r.details globals r.name ∷ []
      → status ≡ BadRequest → RefusesRequest r source told status
  large_numbers : (globals : List Defined) (a : Schema) → HasSchema source r.name globals a → AreTooLarge (numbers_of r.setting) → told ≡ numbers_too_large ∷ []
      → status ≡ BadRequest → RefusesRequest r source told status
  bad_sizes : (globals : List Defined) (a : Schema) (fault : SizeFault) → HasSchema source r.name globals a → AreSmall (numbers_of r.setting)
      → IsRefusal (given_sets globals) (stated globals r.setting) fault → fault ≢ OutOfMemory → told ≡ size_fault_messages r.details globals (stated globals r.setting) fault → status ≡ BadRequest → RefusesRequest r source told status
  not_finite : (globals : List Defined) (a : Schema) (cause : NotFinite) (side : List ℕ) → HasSchema source r.name globals a → AreSmall (numbers_of r.setting)
      → AreComplete (given_sets globals) (stated globals r.setting) → first (causes (numbers_of r.setting) globals a) ≡ Some cause → IsReportedBeside globals cause side → told ≡ not_finite_message r.details source globals cause side (is_mended (numbers_of r.setting) globals a) ∷ [] → status ≡ BadSpec
      → RefusesRequest r source told status
  not_components : (globals : List Defined) (a : Schema) (e : Environment) (place : ℕ) → IsAsked r source globals a e → NamesNoParts a.comps r.only
      → told ≡ messages.not_components place ∷ [] → status ≡ BadRequest → RefusesRequest r source told status
  not_a_binding : (globals : List Defined) (a : Schema) (e : Environment) (shown : List Comp) (misfit : ℕ × List ℕ) → IsAsked r source globals a e → AreShown a.comps r.only shown → NamesNoRow e shown r.after
      → told ≡ messages.not_a_binding r.details misfit ∷ [] → status ≡ BadRequest → RefusesRequest r source told status
  holds_nothing : (globals : List Defined) (a : Schema) (e : Environment) (shown : List Comp) (after : Option (List Value)) (misfit : ℕ × List ℕ) → IsAsked r source globals a e
      → AreShown a.comps r.only shown → IsNamedRow e shown r.after after → HoldsNoValues e a.comps r.held → told ≡ not_held r.details misfit ∷ [] → status ≡ BadRequest → RefusesRequest r source told status
  declared_out : (globals : List Defined) (a : Schema) (e : Environment) (shown : List Comp) (after : Option (List Value)) (held : List (Option Value)) (place : ℕ) (c : Comp) → IsAsked r source globals a e
      → AreShown a.comps r.only shown → IsNamedRow e shown r.after after → AreHeld e a.comps r.held held → IsFirstOut e a.comps place → slice_get a.comps place ≡ Some c → told ≡ messages.declared_out c.name ∷ []
      → status ≡ PastBounds → RefusesRequest r source told status

-- The answer of a request for a source that is read: it is refused, or this is reported of the search.
pub data RequestAnswer (Tells : List Defined → Schema → Environment → Portion → (text : List ℕ) → Status → Type 0) (r : Request) (file source text : List ℕ) (status : Status) : Type 0 where
  refused : AreMessages r.format file (RefusesRequest r source) text status → RequestAnswer Tells r file source text status
  granted : (globals : List Defined) (a : Schema) (e : Environment) (p : Portion) → IsSearch r source globals a e p → Tells globals a e p text status
      → RequestAnswer Tells r file source text status

-- ---- `why`

abbrev pub WhyAnswer : Request → (file source text : List ℕ) → Status → Type 0
WhyAnswer r file source text status = RequestAnswer (TellsWhy r.format r.details file source) r file source text status
