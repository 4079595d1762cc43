-- How the parts of an answer that are written come together.
use Rattle.zf_engine.proofs.Prelude.{◌++◌, ◌∙◌, ◌∷◌, ◌≡◌, ◌⊎◌, [], append-nil, Bool, Err, false, IfOk, inl, inr, List, Ok, None, OnErr, Option, refl, Some, Result, subst, sym, true, ℕ, Appends-kept, Appends-nil, false≢true, Appends, Keeps, Stage, Value, Schema, Environment, spellings, Portion, property, Goal, Status, Answer, AnswersReader, AnswersSource, IsNamedRow, IsSearch, Request, RequestAnswer, ShowAnswer, ShowBegins, StopsInReader, StopsInSource, AnswersRequest, AreMessages, IfAnswered, IsRefused, IsUnexplored, Shows, Tells, UnreadAnswer, wording, Writes, WritesText, messages_text, Message, Stop, Answered, OutOfMemory, Exploration, Check, Reach, Show, Why, value_order, Begins, RunFault, Event, IsNumberOfTests, AppendsFront, AreEventsUpTo, FindsEvents, HasEvents, IsBegun, IsSome, IsTestsLine, IsWritten, StopsShown, TellsTests, Wording, WritesAll, ExplorationAnswer, Gave, NamesParts, TellsShown, comps_at, ArePartsWritten, part_wording, StopsParts, WritesParts}
use Rattle.std.specs.Result.{IsErr}
use Rattle.zf_command.specs.declared.job.Job.{Job}
use Rattle.zf_format.specs.declared.format.Format.{Format}

-- ---- answers that are whole

-- the messages of a refusal are an answer, whatever would be reported of a search
pub show_refused : (r : Request) (file source text : List ℕ) (status : Status)
    → AreMessages r.format file (IsRefused r source) text status → Answer (Show r) file source text status
show_refused r file source text status (told, inl unread, is) = inl (told, unread, is)
show_refused r file source text status (told, inr refused, is) = inr (RequestAnswer.refused (told, refused, is))

pub why_refused : (r : Request) (file source text : List ℕ) (status : Status)
    → AreMessages r.format file (IsRefused r source) text status → Answer (Why r) file source text status
why_refused r file source text status (told, inl unread, is) = inl (told, unread, is)
why_refused r file source text status (told, inr refused, is) = inr (RequestAnswer.refused (told, refused, is))

pub reach_refused : (x : Exploration) (file source text : List ℕ) (status : Status)
    → AreMessages x.format file (IsUnexplored x source) text status → Answer (Reach x) file source text status
reach_refused x file source text status (told, inl unread, is) = inl (told, unread, is)
reach_refused x file source text status (told, inr refused, is) = inr (ExplorationAnswer.refused (told, refused, is))

-- an answer is written, or a front of it
pub text_written : (job : Job) (file source text : List ℕ) (status : Status) (a b : Option (List ℕ)) (result : Result Status RunFault) → Answer job file source text status
    → WritesText text status a b result → Writes job file source a b result
text_written job file source text status a b (Ok given) answer (same, written) = (text, subst (λ s. Answer job file source text s) same answer, written)
text_written job file source text status a b (Err fault) answer (f, front, written) = (f, inr (inl (text, status, answer, front)), written)

pub told_written : (job : Job) (format : Format) (P : List Message → Status → Type 0) (file source : List ℕ)
    → ((text : List ℕ) (status : Status) → AreMessages format file P text status → Answer job file source text status)
    → (stop : Stop) (a b : Option (List ℕ)) (result : Result Status RunFault) → IfAnswered stop P → Tells format file stop a b result → Writes job file source a b result
told_written job format P file source answers (Answered told status) a b result holds h =
    text_written job file source (messages_text format file told) status a b result (answers (messages_text format file told) status (told, holds, refl)) h
told_written job format P file source answers OutOfMemory a b (Ok given) holds h = absurd h
told_written job format P file source answers OutOfMemory a b (Err fault) holds h = ([], inl refl, h)

pub told : (r : Request) (file source : List ℕ) (stop : Stop) (a b : Option (List ℕ)) (result : Result Status RunFault)
    → AnswersRequest r source stop → Tells r.format file stop a b result → Shows r file source a b result
told r file source stop a b result answer h =
    told_written (Show r) r.format (IsRefused r source) file source (show_refused r file source) stop a b result answer h

pub why_told_so : (r : Request) (file source : List ℕ) (stop : Stop) (a b : Option (List ℕ)) (result : Result Status RunFault)
    → AnswersRequest r source stop → Tells r.format file stop a b result → Writes (Why r) file source a b result
why_told_so r file source stop a b result answer h =
    told_written (Why r) r.format (IsRefused r source) file source (why_refused r file source) stop a b result answer h

pub check_unread : (types details : Bool) (format : Format) (file source : List ℕ) (stop : Stop) (a b : Option (List ℕ)) (result : Result Status RunFault)
    → IfAnswered stop (UnreadAnswer details source)
    → Tells format file stop a b result → Writes (Check types details format) file source a b result
check_unread types details format file source stop a b result answer h =
    told_written (Check types details format) format (UnreadAnswer details source) file source (λ text status unread. inl unread) stop a b result answer h

-- nothing was written
pub stopped : (r : Request) (file source : List ℕ) (a : Option (List ℕ)) (result : Result Status RunFault) → IsErr result → Shows r file source a a result
stopped r file source a (Ok status) h = absurd (false≢true h)
stopped r file source a (Err fault) h = ([], inl refl, Appends-nil a)

-- where a run stops, a part was written
pub stops_err : (job : Job) (file source : List ℕ) (a b : Option (List ℕ)) (result : Result Status RunFault) → IsErr result → StopsInSource job file source a b → Writes job file source a b result
stops_err job file source a b (Ok status) h stops = absurd (false≢true h)
stops_err job file source a b (Err fault) h stops = stops

-- what is written for this job is the job's
pub writes_ok : (other job : Job) (file bytes source : List ℕ) (a b : Option (List ℕ)) (result : Result Status RunFault) → job ≡ other → bytes ≡ file
    → Writes other bytes source a b result → IfOk result (λ status. AnswersSource job file source a b status)
writes_ok other job file bytes source a b (Ok status) same is h =
    subst (λ j. AnswersSource j file source a b status) (sym same) (subst (λ n. AnswersSource other n source a b status) is h)
writes_ok other job file bytes source a b (Err fault) same is h = tt

pub writes_err : (other job : Job) (file bytes source : List ℕ) (a b : Option (List ℕ)) (result : Result Status RunFault) → job ≡ other → bytes ≡ file
    → Writes other bytes source a b result → OnErr result (StopsInSource job file source a b)
writes_err other job file bytes source a b (Ok status) same is h = tt
writes_err other job file bytes source a b (Err fault) same is h =
    subst (λ j. StopsInSource j file source a b) (sym same) (subst (λ n. StopsInSource other n source a b) is h)

-- a front of nothing is nothing
pub nothing_stops : (job : Job) (file source text : List ℕ) (old new : Option (List ℕ)) → text ≡ [] → AppendsFront old new text → StopsInSource job file source old new
nothing_stops job file source text old new none (f, (rest, split), written) = (f, inl (nothing f rest (sym split ∙ none)), written) where
  nothing : (xs ys : List ℕ) → xs ++ ys ≡ [] → xs ≡ []
  nothing [] ys k = refl
  nothing (x ∷ xs) ys k = cc

-- ---- the lines of a search

module _ (r : Request) (file source : List ℕ) (a : Schema) (g : Goal) (b : Stage Value) (k : Wording Value) (e : Environment) (p : Portion)
    (search : IsSearch r source e.globals a e p) (begins : Begins e a p g b) where
  listed : (last : Option (List Value)) (events : List (Event Value)) → FindsEvents g.environment a b last events → HasEvents e a p last events
  listed last events h = record {
    ranges = b.ranges;
    of_components = begins.ranges;
    listed = subst (λ f. AreEventsUpTo value_order (property f a.conjuncts) b.ranges p.after last events) begins.environment
        (subst (λ n. AreEventsUpTo value_order (property g.environment a.conjuncts) b.ranges n last events) begins.named h);
  }

  counted : (tests : Bool) (last : Option (List Value)) (text : List ℕ) → TellsTests k tests g.environment a b last text → IsTestsLine k tests e a p last text
  counted false last text h = h
  counted true last text (number, h, is) = (
    number,
    record {
      ranges = b.ranges;
      of_components = begins.ranges;
      counted = subst (λ f. IsNumberOfTests value_order (property f a.conjuncts) b.ranges p.after last number) begins.environment
          (subst (λ n. IsNumberOfTests value_order (property g.environment a.conjuncts) b.ranges n last number) begins.named h);
    },
    is,
  )

  -- what is reported of them is the answer
  granted : (only : Option (List ℕ)) → r.only ≡ only → (text : List ℕ) (status : Status) → TellsShown only r e.globals a e p text status → ShowAnswer r file source text status
  granted only same text status told = RequestAnswer.granted e.globals a e p search (subst (λ o. TellsShown o r e.globals a e p text status) (sym same) told)

  -- ---- the bindings themselves
  module _ (all : r.only ≡ None) (worded : k ≡ wording r e.globals a) where
    whole_answer : (tests : Bool) (text : List ℕ) (status : Status) → tests ≡ r.tests → WritesAll k r.limit tests g.environment a b text status → ShowAnswer r file source text status
    whole_answer tests text status same w = granted None all text status (record {
      last = w.last;
      events = w.events;
      lines = w.written;
      counted = w.counted;
      listed = listed w.last w.events w.listed;
      ends = subst (λ h. IsWritten h r.limit w.events w.last w.written status) worded w.ends;
      numbered = subst (λ h. IsTestsLine h r.tests e a p w.last w.counted) worded (subst (λ t. IsTestsLine k t e a p w.last w.counted) same (counted tests w.last w.counted w.numbered));
      whole = w.whole;
    })

    first_lines : (text : List ℕ) → IsSome k r.limit g.environment a b text → (text ≡ []) ⊎ ShowBegins r source text
    first_lines text (inl none) = inl none
    first_lines text (inr (events, last, some, begun)) =
        inr (ShowBegins.bindings e.globals a e p last events all search (listed last events some) (subst (λ h. IsBegun h r.limit events last text) worded begun))

    stops_early : (text : List ℕ) (old new : Option (List ℕ)) → (text ≡ []) ⊎ ShowBegins r source text → AppendsFront old new text
        → StopsInSource (Show r) file source old new
    stops_early text old new (inl none) front = nothing_stops (Show r) file source text old new none front
    stops_early text old new (inr begins) (f, front, written) = (f, inr (inr (text, begins, front)), written)

    -- what is written of the search is the answer of the request, or a part of it
    pub shown : (tests : Bool) (old new : Option (List ℕ)) (result : Result Status RunFault) → tests ≡ r.tests
        → IfOk result (λ status. (text : List ℕ) × WritesAll k r.limit tests g.environment a b text status × Appends old new text)
        → OnErr result (StopsShown k r.limit tests g.environment a b old new) → Shows r file source old new result
    shown tests old new (Ok status) same (text, w, written) stops = (text, inr (whole_answer tests text status same w), written)
    shown tests old new (Err fault) same all_told (inl (text, some, front)) = stops_early text old new (first_lines text some) front
    shown tests old new (Err fault) same all_told (inr (text, status, w, (f, front, written))) = (f, inr (inl (text, status, inr (whole_answer tests text status same w), front)), written)

  -- ---- what some components have in them
  module _ (names places : List ℕ) (after : Option (List Value)) (some : r.only ≡ Some names) (named : NamesParts a.comps names places)
      (comes_after : IsNamedRow e (comps_at a.comps places) r.after after)
      (worded : k ≡ part_wording r.format (spellings e.globals) (comps_at a.comps places) a.comps) where
    parts_answer : (text : List ℕ) (status : Status) → WritesParts k r.limit g.environment a b places after text status → ShowAnswer r file source text status
    parts_answer text status w = granted (Some names) some text status (record {
      places = places;
      after = after;
      parts = w.parts;
      of_names = named;
      comes_after = comes_after;
      listed = record { events = w.found.events; listed = listed None w.found.events w.found.listed; are = w.found.are };
      ends = subst (λ h. ArePartsWritten h r.limit w.parts text status) worded w.written;
    })

    pub parts_shown : (old new : Option (List ℕ)) (result : Result Status RunFault)
        → IfOk result (λ status. (text : List ℕ) × WritesParts k r.limit g.environment a b places after text status × Appends old new text)
        → OnErr result (StopsParts k r.limit g.environment a b places after old new) → Shows r file source old new result
    parts_shown old new (Ok status) (text, w, written) stops = (text, inr (parts_answer text status w), written)
    parts_shown old new (Err fault) all (inl nothing) = ([], inl refl, nothing)
    parts_shown old new (Err fault) all (inr (text, status, w, (f, front, written))) = (f, inr (inl (text, status, inr (parts_answer text status w), front)), written)

-- ---- answers

pub stops_reading : (job : Job) (file source : List ℕ) (given left a b : Option (List ℕ)) → Gave given left source
    → StopsInSource job file source a b → StopsInReader job file given left a b
stops_reading job file source given left a b gave (written, part, appended) = (written, appended, inr (source, gave, part))

-- the whole answer was written, and then the flush failed
pub stops_whole : (job : Job) (file source : List ℕ) (status : Status) (a b c : Option (List ℕ)) → AnswersSource job file source a b status
    → Keeps b c → StopsInSource job file source a c
stops_whole job file source status a b c (text, answer, appended) kept =
    (text, inr (inl (text, status, answer, ([], sym (append-nil text)))), Appends-kept a b c text appended kept)

-- the same, where the flush did not fail
pub answers_kept : (job : Job) (file source : List ℕ) (status : Status) (given left a b c : Option (List ℕ)) → Gave given left source → AnswersSource job file source a b status
    → Keeps b c → AnswersReader job file given left a c status
answers_kept job file source status given left a b c gave (text, answer, appended) kept = (source, gave, (text, answer, Appends-kept a b c text appended kept))
