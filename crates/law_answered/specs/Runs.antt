-- Runs of `show` that stop early, and runs that follow each other.
use Rattle.std.specs.Prelude.{◌≡◌, ℕ, ◌+◌, false, List, ◌++◌, Option, Some, None}
use Rattle.law_answered.specs.Prelude.{flat_map, Job, Defined, Schema, Value, Environment, Portion, binding_text, spellings, Status, Request, Answer, IsLimited, IsPartOfAnswer, ShowBegins, wording}
use Rattle.zf_lines.specs.Faults.{IsFront}
use Rattle.law_answered.specs.Bindings.{ShowsBindings}
use Rattle.law_answered.specs.Laws.{AnswersRequest, IsGranted}

-- ---- a run that stops early

-- First lines are a front of every answer.
abbrev pub FirstLinesAreAFront : Type 0
FirstLinesAreAFront = (r : Request) (file source first text : List ℕ) (status : Status) → ShowBegins r source first → AnswersRequest r file source text status → IsFront text first

-- So whatever a run that stops early has written is a front of an answer.
abbrev pub PartsAreFronts : Type 0
PartsAreFronts =
    (job : Job) (file source written : List ℕ) → IsLimited job → IsPartOfAnswer job file source written
    → (text : List ℕ) × (status : Status) × Answer job file source text status × IsFront text written

-- ---- runs that follow each other

-- the same request with another limit
abbrev pub limited : Option ℕ → Request → Request
limited limit r = record { name = r.name; setting = r.setting; after = r.after; held = r.held; only = r.only; limit = limit; tests = r.tests; details = r.details; format = r.format }

-- the same request with another limit, for what comes after the row of this text
abbrev pub resumed : List ℕ → Option ℕ → Request → Request
resumed text limit r = record { name = r.name; setting = r.setting; after = Some text; held = r.held; only = r.only; limit = limit; tests = r.tests; details = r.details; format = r.format }

-- so many bindings, and then up to a limit
abbrev pub together : ℕ → Option ℕ → Option ℕ
together n None = None
together n (Some m) = Some (n + m)

-- Where a run with a limit ends with `more`, and another run comes after the last of its rows, the lines of the first and then the answer of the second are
-- the answer of one run, with both limits together. All components are shown, and the number of tests is not asked for.
abbrev pub RunsMakeOne : Type 0
RunsMakeOne =
    (r : Request) (n : ℕ) (limit : Option ℕ) (file source : List ℕ) (globals : List Defined) (a : Schema) (e : Environment) (p : Portion)
    (first second : List ℕ) (s t : Status) (run : ShowsBindings (limited (Some n) r) globals a e p first s) (row : List Value)
    → IsGranted r source globals a e p → r.only ≡ None → r.tests ≡ false → run.final ≡ (wording r globals a).more → run.last ≡ Some row
    → AnswersRequest (resumed (binding_text (spellings globals) a.comps row) limit r) file source second t
    → AnswersRequest (limited (together n limit) r) file source (flat_map (wording r globals a).line run.rows ++ second) t
