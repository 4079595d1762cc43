-- What a run writes and answers, by the first case that applies.
use Rattle.std.specs.Prelude.{◌≡◌, ◌⊎◌, ℕ, Bool, List, [], ◌++◌, Option, Some, None}
use Rattle.zf_engine.specs.Prelude.{Appends, Job, Check, Reach, Show, Why, Request, IsBare, Format, Defined, Schema, Value, Event, Environment, Portion, spellings, Status, comps_at, HasEvents, HasLimit, IsBegun, IsTestsLine, IsWritten, row_wording, Wording}
use Rattle.zf_lines.specs.Faults.{IsFront}
use Rattle.zf_parts.specs.{ArePartsWritten, HasParts, Part, part_wording}
use Rattle.zf_answers.specs.Faults.{Gave}
use Rattle.zf_answers.specs.Answers.{CheckAnswer, IsNamedRow, IsSearch, RequestAnswer, UnreadAnswer, WhyAnswer}
use Rattle.zf_engine.specs.Explorations.{ExplorationAnswer, ExplorationBegins}
use Rattle.zf_answers.specs.Only.{NamesParts}
use Rattle.zf_answers.specs.Settings.{AreMessages}

-- ---- `show`

-- in which lines the bindings of a schema are written
abbrev pub wording : Request → List Defined → Schema → Wording Value
wording r globals a = row_wording r.format (spellings globals) a.comps

-- the lines of the events of a schema among these globals, the last line, and that of the number of tests, if it is asked for
pub record ShowsEvents (r : Request) (globals : List Defined) (a : Schema) (e : Environment) (p : Portion) (text : List ℕ) (status : Status) : Type 0 where
  pub last : Option (List Value)
  pub events : List (Event Value)
  pub lines : List ℕ
  pub counted : List ℕ
  pub listed : HasEvents e a p last events
  pub ends : IsWritten (wording r globals a) r.limit events last lines status
  pub numbered : IsTestsLine (wording r globals a) r.tests e a p last counted
  pub whole : text ≡ lines ++ counted

-- the lines of what these components have in the events, each once, and the last line
pub record ShowsParts (names : List ℕ) (r : Request) (globals : List Defined) (a : Schema) (e : Environment) (p : Portion) (text : List ℕ) (status : Status) : Type 0 where
  pub places : List ℕ
  pub after : Option (List Value)
  pub parts : List Part
  pub of_names : NamesParts a.comps names places
  pub comes_after : IsNamedRow e (comps_at a.comps places) r.after after
  pub listed : HasParts e a p places after parts
  pub ends : ArePartsWritten (part_wording r.format (spellings globals) (comps_at a.comps places) a.comps) r.limit parts text status

-- which of both, where these components are named, if some are
abbrev pub TellsShown : (only : Option (List ℕ)) → Request → List Defined → Schema → Environment → Portion → (text : List ℕ) → Status → Type 0
TellsShown None r globals a e p text status = ShowsEvents r globals a e p text status
TellsShown (Some names) r globals a e p text status = ShowsParts names r globals a e p text status

abbrev pub ShowAnswer : Request → (file source text : List ℕ) → Status → Type 0
ShowAnswer r file source text status = RequestAnswer (TellsShown r.only r) r file source text status

-- the first lines that `show` writes of bindings: those of the first ones
pub data ShowBegins (r : Request) (source text : List ℕ) : Type 0 where
  bindings : (globals : List Defined) (a : Schema) (e : Environment) (p : Portion) (last : Option (List Value)) (events : List (Event Value))
      → r.only ≡ None → IsSearch r source globals a e p → HasEvents e a p last events → IsBegun (wording r globals a) r.limit events last text
      → ShowBegins r source text

-- ---- jobs

-- a limit is at least 1; of `why` nothing is asked that is for `show` alone
abbrev pub IsLimited : Job → Type 0
IsLimited (Check types details format) = Unit {0}
IsLimited (Show r) = HasLimit r.limit
IsLimited (Why r) = IsBare r
IsLimited (Reach x) = HasLimit x.limit

-- whether it is asked what faults are about
abbrev pub wants_details : Job → Bool
wants_details (Check types details format) = details
wants_details (Show r) = r.details
wants_details (Why r) = r.details
wants_details (Reach x) = x.details

-- in which format the answer is asked for
abbrev pub format_of : Job → Format
format_of (Check types details format) = format
format_of (Show r) = r.format
format_of (Why r) = r.format
format_of (Reach x) = x.format

abbrev pub JobAnswer : Job → (file source text : List ℕ) → Status → Type 0
JobAnswer (Check types details format) file source text status = CheckAnswer types details format file source text status
JobAnswer (Show r) file source text status = ShowAnswer r file source text status
JobAnswer (Why r) file source text status = WhyAnswer r file source text status
JobAnswer (Reach x) file source text status = ExplorationAnswer x file source text status

-- the text and the status that answer a job on a source
abbrev pub Answer : Job → (file source text : List ℕ) → Status → Type 0
Answer job file source text status = AreMessages (format_of job) file (UnreadAnswer (wants_details job) source) text status ⊎ JobAnswer job file source text status

-- the text is what an answer begins with, whatever follows
abbrev pub JobBegins : Job → (source text : List ℕ) → Type 0
JobBegins (Show r) source text = ShowBegins r source text
JobBegins (Reach x) source text = ExplorationBegins x source text
JobBegins _ source text = ⊥

-- ---- what a run leaves

-- the bytes written are an answer for the source, with the status
abbrev pub AnswersSource : Job → List ℕ → List ℕ → Option (List ℕ) → Option (List ℕ) → Status → Type 0
AnswersSource job file source old new status = (text : List ℕ) × Answer job file source text status × Appends old new text

-- nothing was written, or the front of an answer for the source, or of its first lines
abbrev pub IsPartOfAnswer : Job → List ℕ → List ℕ → List ℕ → Type 0
IsPartOfAnswer job file source written =
    (written ≡ []) ⊎ (((text : List ℕ) × (status : Status) × Answer job file source text status × IsFront text written)
    ⊎ ((text : List ℕ) × JobBegins job source text × IsFront text written))

-- the same for the bytes that a reader gave, which had `given` before the call and has `left` after it
abbrev pub AnswersReader : Job → List ℕ → Option (List ℕ) → Option (List ℕ) → Option (List ℕ) → Option (List ℕ) → Status → Type 0
AnswersReader job file given left old new status = (source : List ℕ) × Gave given left source × AnswersSource job file source old new status

abbrev pub StopsInReader : Job → List ℕ → Option (List ℕ) → Option (List ℕ) → Option (List ℕ) → Option (List ℕ) → Type 0
StopsInReader job file given left old new =
    (written : List ℕ) × Appends old new written × ((written ≡ []) ⊎ ((source : List ℕ) × Gave given left source × IsPartOfAnswer job file source written))
