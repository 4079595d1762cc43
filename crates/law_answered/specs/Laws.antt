-- What is claimed of the answers.
use Rattle.std.specs.Prelude.{◌≡◌, ◌≢◌, ◌⊎◌, ℕ, Bool, false, List, [], ◌∷◌, ◌++◌, codes, map, Option, None, Some}
use Rattle.law_answered.specs.Prelude.{Job, Show, Why, IsCutInto, Comp, Defined, Fault, Schema, Value, Environment, IsEnvironment, Size, Portion, HasLimit, Status, Request, Answer, AreHeld, Checks, format_of, HasSchema, HoldsNoValues, IsLimited, IsNamedRow, IsSearch, NamesNoRow, ShowsEvents, TellsConjuncts, TellsWhy, wants_details}
use Rattle.zf_format.specs.declared.format.Format.{Format}
use Rattle.zf_finite.specs.declared.not_finite.NotFinite.{NotFinite}
use Rattle.zf_scan.specs.declared.fault.TextFault.{TextFault}
use Rattle.zf_scan.specs.declared.token.Token.{Token}
use Rattle.zf_parse.specs.{IsGrammarFault, ReadsSource, RefusesSource, RefusesTokens}
use Rattle.zf_tree.specs.{BoxTree}
use Rattle.zf_term.specs.{kind_of}
use Rattle.zf_schema.specs.{Item, OffendsItem}
use Rattle.zf_why.specs.{nothing_beside, others_beside, RefutedBy, RefutedTogetherBy}
use Rattle.zf_messages.specs.declared.message.At.TheVariants.{Line}
use Rattle.zf_messages.specs.declared.message.Message.{Message}
use Rattle.zf_messages.specs.{AreFaultMessages, Cited, line_at, messages_text, not_a_binding, not_components, not_finite_message, not_held, plain, text_fault_message}
use Rattle.zf_messages.specs.Texts.{type_fault_text}
use Rattle.law_answered.specs.Bindings.{ShowsBindings}
use Rattle.law_answered.specs.Parts.{ShowsEachPart}

-- ---- what `show` answers

-- the text and the status answer the request
abbrev pub AnswersRequest : Request → (file source text : List ℕ) → Status → Type 0
AnswersRequest r file source text status = Answer (Show r) file source text status

-- Nothing stands in the way of the request: a tree reads the source, it is well typed and this is its schema of the name, the numbers and the sizes fit and
-- this is the environment at them, the schema is finite, these components are shown, the named row is this row of their types, if one is named, and the search comes after it where all
-- components are shown; these values are held, if a line of some components is given, and no declared set is out.
abbrev pub IsGranted : Request → (source : List ℕ) → List Defined → Schema → Environment → Portion → Type 0
IsGranted r source globals a e p = IsSearch r source globals a e p

-- Then, where all components are shown, every answer has the lines of exactly the schema's bindings after the named row with the held values, each once, in ascending order, up to the limit or the first row that
-- is out of bounds; then the last line, which says which of these ended it, and the number of tests, if it is asked for.
abbrev pub EachBindingIsShown : Type 0
EachBindingIsShown =
    (r : Request) (file source : List ℕ) (globals : List Defined) (a : Schema) (e : Environment) (p : Portion) (text : List ℕ) (status : Status)
    → r.only ≡ None → IsGranted r source globals a e p → AnswersRequest r file source text status → ShowsBindings r globals a e p text status

-- Where some are, it has the lines of exactly what these have in such bindings.
abbrev pub EachPartIsShown : Type 0
EachPartIsShown =
    (r : Request) (names file source : List ℕ) (globals : List Defined) (a : Schema) (e : Environment) (p : Portion) (text : List ℕ) (status : Status)
    → r.only ≡ Some names → HasLimit r.limit → IsGranted r source globals a e p → AnswersRequest r file source text status → ShowsEachPart names r globals a e p text status

-- So there is one answer.
abbrev pub IsShownInOneWay : Type 0
IsShownInOneWay =
    (r : Request) (file source : List ℕ) (globals : List Defined) (a : Schema) (e : Environment) (p : Portion) (one two : List ℕ) (s t : Status)
    → IsGranted r source globals a e p → AnswersRequest r file source one s → AnswersRequest r file source two t → (one ≡ two) × (s ≡ t)

-- the text and the status of the schema's events after the named row with the held values, as the contract of the lines has them
abbrev pub EventsAreShown : Type 0
EventsAreShown =
    (r : Request) (file source : List ℕ) (globals : List Defined) (a : Schema) (e : Environment) (p : Portion) (text : List ℕ) (status : Status)
    → r.only ≡ None → IsGranted r source globals a e p → AnswersRequest r file source text status → ShowsEvents r globals a e p text status

-- ---- what `why` answers

-- Where nothing stands in the way of the request, every answer of `why` is the first event of the search, or why there is none.
abbrev pub ReasonIsTold : Type 0
ReasonIsTold =
    (r : Request) (file source : List ℕ) (globals : List Defined) (a : Schema) (e : Environment) (p : Portion) (text : List ℕ) (status : Status)
    → IsGranted r source globals a e p → Answer (Why r) file source text status → TellsWhy r.format r.details file source globals a e p text status

-- ---- one answer

-- A source has one status for a job.
abbrev pub OneStatus : Type 0
OneStatus = (job : Job) (file source one two : List ℕ) (s t : Status) → Answer job file source one s → Answer job file source two t → s ≡ t

-- these messages tell that no tree reads the source, or none that is low enough
pub record TellsGrammar (details : Bool) (source : List ℕ) (told : List Message) : Type 0 where
  pub fault : TextFault
  pub about : Cited
  pub tokens : List Token
  pub cut : IsCutInto source tokens
  pub kind : IsGrammarFault fault.kind
  pub refused : RefusesTokens fault.kind fault.span tokens
  pub messages : told ≡ text_fault_message details source fault about ∷ []

-- as many faults in both, and those at one place are offences of one paragraph or box
abbrev pub AreOfSame : List Fault → List Fault → Type 0
AreOfSame [] [] = Unit {0}
AreOfSame [] (f ∷ fs) = ⊥
AreOfSame (e ∷ es) [] = ⊥
AreOfSame (e ∷ es) (f ∷ fs) = ((g : List Defined) × (item : Item) × OffendsItem g item e.offence e.span × OffendsItem g item f.offence f.span) × AreOfSame es fs

-- two lists of messages are those of faults of the same paragraphs and boxes
pub record AreFaultsAlike (details : Bool) (source : List ℕ) (one two : List Message) : Type 0 where
  pub globals : List Defined
  pub first : List Fault
  pub second : List Fault
  pub checks : Checks source globals first
  pub also_checks : Checks source globals second
  pub some : first ≢ []
  pub same : AreOfSame first second
  pub messages : AreFaultMessages details source first one
  pub also_messages : AreFaultMessages details source second two

-- Two lists of messages are one, or differ in what is left open: which fault of the grammar an unread source has, which symbols a fault of it is about, which
-- offence of an ill typed paragraph is reported and what is reported beside it, which schema without a component is reported, and the byte at which a text is no
-- names of components, no binding, or no line of some components, with what was expected there.
pub data AreMessagesAlike (details : Bool) (source : List ℕ) (one two : List Message) : Type 0 where
  same : one ≡ two → AreMessagesAlike details source one two
  symbols : (fault : TextFault) (first second : Cited) → RefusesSource source fault → one ≡ text_fault_message details source fault first ∷ []
      → two ≡ text_fault_message details source fault second ∷ [] → AreMessagesAlike details source one two
  grammar : TellsGrammar details source one → TellsGrammar details source two → AreMessagesAlike details source one two
  types : AreFaultsAlike details source one two → AreMessagesAlike details source one two
  infinite : (globals : List Defined) (cause : NotFinite) (mended : Bool) (first second : List ℕ) → one ≡ not_finite_message details source globals cause first mended ∷ []
      → two ≡ not_finite_message details source globals cause second mended ∷ [] → AreMessagesAlike details source one two
  no_components : (first second : ℕ) → one ≡ not_components first ∷ [] → two ≡ not_components second ∷ [] → AreMessagesAlike details source one two
  no_binding : (first second : ℕ × List ℕ) → one ≡ not_a_binding details first ∷ [] → two ≡ not_a_binding details second ∷ [] → AreMessagesAlike details source one two
  no_values : (first second : ℕ × List ℕ) → one ≡ not_held details first ∷ [] → two ≡ not_held details second ∷ [] → AreMessagesAlike details source one two

-- Two texts in a format are one, or those of messages that are alike, with one listing behind those of faults of types; or they differ in what is reported of the
-- sides of disjunctions, or in which minimal set of conjuncts that can't hold together is reported.
pub data AreAlike (f : Format) (details : Bool) (file source one two : List ℕ) : Type 0 where
  same : one ≡ two → AreAlike f details file source one two
  messages : (first second : List Message) → AreMessagesAlike details source first second → one ≡ messages_text f file first → two ≡ messages_text f file second
      → AreAlike f details file source one two
  listed : (first second : List Message) (listing : List ℕ) → AreFaultsAlike details source first second → one ≡ messages_text f file first ++ listing
      → two ≡ messages_text f file second ++ listing → AreAlike f details file source one two
  sides : (name : List ℕ) (globals : List Defined) (a : Schema) (sizes : List Size) (numbers : Option ℕ) (e : Environment) (held : List (Option Value)) (alone : List Bool) → HasSchema source name globals a
      → IsEnvironment globals sizes numbers e → RefutedBy e a held alone
      → TellsConjuncts f details file source a e held nothing_beside alone (codes "each alone") one
      → TellsConjuncts f details file source a e held nothing_beside alone (codes "each alone") two → AreAlike f details file source one two
  reasons : (name : List ℕ) (globals : List Defined) (a : Schema) (sizes : List Size) (numbers : Option ℕ) (e : Environment) (held : List (Option Value)) (first second : List Bool) → HasSchema source name globals a
      → IsEnvironment globals sizes numbers e → RefutedTogetherBy e a held first → RefutedTogetherBy e a held second
      → TellsConjuncts f details file source a e held (others_beside a.conjuncts first) first (codes "only together") one
      → TellsConjuncts f details file source a e held (others_beside a.conjuncts second) second (codes "only together") two
      → AreAlike f details file source one two

-- A source has one text for a job, but for what is left open.
abbrev pub OneText : Type 0
OneText = (job : Job) (file source one two : List ℕ) (s t : Status) → Answer job file source one s → Answer job file source two t → AreAlike (format_of job) (wants_details job) file source one two

-- the message of a fault of types: its line, and of what kind it is
abbrev pub plain_message : (source : List ℕ) → Fault → Message
plain_message source fault = plain (Line (line_at source fault.span.start)) (type_fault_text (kind_of fault.offence))

-- Without details nothing is reported beside an offence: each fault has this message, and no more.
abbrev pub PlainMessages : Type 0
PlainMessages =
    (source : List ℕ) (faults : List Fault) (told : List Message) → AreFaultMessages false source faults told → told ≡ map (plain_message source) faults

-- ---- what is always one of two

-- Each source is read by a tree, or is refused with a fault.
abbrev pub EverySourceIsRead : Type 0
EverySourceIsRead = (source : List ℕ) → ((boxes : List BoxTree) × ReadsSource boxes source) ⊎ ((fault : TextFault) × RefusesSource source fault)

-- A text is the line of a row of the components' types, or of none; where no text is given no row is named.
abbrev pub EveryLineIsJudged : Type 0
EveryLineIsJudged = (e : Environment) (comps : List Comp) (text : Option (List ℕ)) → ((after : Option (List Value)) × IsNamedRow e comps text after) ⊎ NamesNoRow e comps text

-- So is one a line of some of them, which holds these values, or of none; where no text is given nothing is held.
abbrev pub EveryHeldLineIsJudged : Type 0
EveryHeldLineIsJudged = (e : Environment) (comps : List Comp) (text : Option (List ℕ)) → ((held : List (Option Value)) × AreHeld e comps text held) ⊎ HoldsNoValues e comps text

-- ---- every request

-- Each request, with a limit of at least 1 if it has one, has an answer.
abbrev pub EveryRequestIsAnswered : Type 0
EveryRequestIsAnswered = (job : Job) (file source : List ℕ) → IsLimited job → (text : List ℕ) × (status : Status) × Answer job file source text status
