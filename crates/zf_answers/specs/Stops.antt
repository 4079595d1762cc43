-- What the steps of an answer ensure. What is answered does not rest on this file.
use Rattle.std.specs.Prelude.{◌≡◌, ◌≢◌, ◌⊎◌, ℕ, Bool, List, [], ◌∷◌, Option, Result, Ok, Err}
use Rattle.zf_answers.specs.Prelude.{Appends, TextFault, Comp, Defined, Value, Environment, Status, BadSpec, BadRequest, Request, AppendsFront, Cited, Message, not_a_binding, not_components, not_held, text_fault_message, Format, messages_text}
use Rattle.zf_scan.specs.declared.fault.TextFaultKind.TheVariants as text_faults
use Rattle.zf_lines.specs.declared.fault.RunFault.{RunFault}
use Rattle.zf_answers.specs.declared.stop.Stop.{Stop}
use Rattle.zf_answers.specs.declared.stop.Stop.TheVariants.{Answered, OutOfMemory}
use Rattle.zf_answers.specs.Answers.{HoldsNoValues, IsNamedRow, NamesNoRow, RefusesRequest, UnreadAnswer}
use Rattle.zf_answers.specs.Only.{AreShown, NamesNoParts}
use Rattle.zf_answers.specs.Adding.{HasNoPlace}
use Rattle.zf_answers.specs.Settings.{Checks, TellsFaults}

-- ---- answers that are whole

-- the fact holds of the messages and the status of an answer, unless memory ran out
abbrev pub IfAnswered : Stop → (List Message → Status → Type 0) → Type 0
IfAnswered (Answered told status) P = P told status
IfAnswered OutOfMemory P = Unit {0}

abbrev pub IsTextFault : (details : Bool) → (source : List ℕ) → TextFault → (about : Cited) → List Message → Status → Type 0
IsTextFault details source fault about told status = (fault.kind ≢ text_faults.OutOfMemory) × (told ≡ text_fault_message details source fault about ∷ []) × (status ≡ BadSpec)

-- the answer tells a place of a text that is the line of no row
abbrev pub TellsPlace : (details : Bool) → (misfit : ℕ × List ℕ) → List Message → Status → Type 0
TellsPlace details misfit told status = (told ≡ not_a_binding details misfit ∷ []) × (status ≡ BadRequest)

abbrev pub TellsNoRow : (details : Bool) → Environment → List Comp → Option (List ℕ) → List Message → Status → Type 0
TellsNoRow details e comps after told status = NamesNoRow e comps after × ((misfit : ℕ × List ℕ) × TellsPlace details misfit told status)

-- the answer tells a place of a text that is no line of some components
abbrev pub TellsPlaceHeld : (details : Bool) → (misfit : ℕ × List ℕ) → List Message → Status → Type 0
TellsPlaceHeld details misfit told status = (told ≡ not_held details misfit ∷ []) × (status ≡ BadRequest)

abbrev pub TellsNoValues : (details : Bool) → Environment → List Comp → Option (List ℕ) → List Message → Status → Type 0
TellsNoValues details e comps held told status = HoldsNoValues e comps held × ((misfit : ℕ × List ℕ) × TellsPlaceHeld details misfit told status)

-- the answer tells a place of a text that names no components
abbrev pub TellsPlaceMisnamed : List Message → Status → Type 0
TellsPlaceMisnamed told status = (place : ℕ) × (told ≡ not_components place ∷ []) × (status ≡ BadRequest)

abbrev pub TellsNoParts : List Comp → Option (List ℕ) → List Message → Status → Type 0
TellsNoParts comps only told status = NamesNoParts comps only × TellsPlaceMisnamed told status

-- the answer tells a place of a name that adds none to these
abbrev pub IsMisnamed : List Comp → (name : List ℕ) → (places : List ℕ) → List Message → Status → Type 0
IsMisnamed comps name places told status = HasNoPlace comps name places × TellsPlaceMisnamed told status

-- the answer tells that a text is no line of a row of the components that are shown, or no line of some components
abbrev pub TellsBounds : Environment → List Comp → (shown : List Comp) → Request → List Message → Status → Type 0
TellsBounds e comps shown r told status =
    TellsNoRow r.details e shown r.after told status ⊎ ((after : Option (List Value)) × IsNamedRow e shown r.after after × TellsNoValues r.details e comps r.held told status)

-- the answer tells that one of the texts which say what is asked for is not what it has to be
abbrev pub TellsMisnamed : Environment → List Comp → Request → List Message → Status → Type 0
TellsMisnamed e comps r told status = TellsNoParts comps r.only told status ⊎ ((shown : List Comp) × AreShown comps r.only shown × TellsBounds e comps shown r told status)

-- the source is not read, or the request is refused for it
abbrev pub IsRefused : Request → (source : List ℕ) → List Message → Status → Type 0
IsRefused r source told status = UnreadAnswer r.details source told status ⊎ RefusesRequest r source told status

-- this answers the request, whatever would be reported of a search
abbrev pub AnswersRequest : Request → (source : List ℕ) → Stop → Type 0
AnswersRequest r source stop = IfAnswered stop (IsRefused r source)

-- the source is not read, or not well typed: this is the answer, whatever else is asked for
abbrev pub IsUnfit : (details : Bool) → (source : List ℕ) → List Message → Status → Type 0
IsUnfit details source told status = UnreadAnswer details source told status ⊎ TellsFaults details source told status

-- this answers the request for a source that is well typed and defines these globals
abbrev pub AnswersOver : List Defined → Request → (source : List ℕ) → Stop → Type 0
AnswersOver g r source stop = Checks source g [] → AnswersRequest r source stop

-- a whole text is written, or a front of it
abbrev pub WritesText : (text : List ℕ) → Status → Option (List ℕ) → Option (List ℕ) → Result Status RunFault → Type 0
WritesText text status old new (Ok given) = (status ≡ given) × Appends old new text
WritesText text status old new (Err fault) = AppendsFront old new text

-- the messages of what is reported are written in this format, or a front of them
abbrev pub Tells : Format → (file : List ℕ) → Stop → Option (List ℕ) → Option (List ℕ) → Result Status RunFault → Type 0
Tells format file (Answered told status) old new result = WritesText (messages_text format file told) status old new result
Tells format file OutOfMemory old new (Ok given) = ⊥
Tells format file OutOfMemory old new (Err fault) = Appends old new []
