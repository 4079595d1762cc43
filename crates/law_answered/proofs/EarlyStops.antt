-- What a run that stops early has written is a front of an answer.
use Rattle.law_answered.proofs.Prelude.{◌++◌, ◌∙◌, ap, append_assoc, inl, inr, List, Option, sym, ℕ, Event, exact, value_order, Value, Defined, Schema, Environment, Portion, property, Job, Check, Reach, Show, Why, IsFront, HasEvents, IsBegun, lines, Status, property_told, Answer, JobBegins, Request, ShowBegins, EveryRequestIsAnswered, ShowsEvents, FirstLinesAreAFront, PartsAreFronts, wording, total-law}
use Rattle.law_answered.proofs.FirstLines.{first_lines}
use Rattle.law_answered.proofs.OneSearch.{listed_in}
use Rattle.law_answered.proofs.Reached.{first_turns_are_a_front}
use Rattle.law_answered.proofs.Shown.{events_are_shown}

front_shown : (r : Request) (g : List Defined) (a : Schema) (e : Environment) (p : Portion) (last : Option (List Value)) (events : List (Event Value)) (first text : List ℕ) (status : Status)
    → HasEvents e a p last events → IsBegun (wording r g a) r.limit events last first → ShowsEvents r g a e p text status → IsFront text first
front_shown r g a e p last events first text status listed begun shown =
    let telling = wording r g a in
    let front = first_lines value_order total-law exact (property e a.conjuncts) (property_told e a.conjuncts) listed.ranges p.after
    telling r.limit events shown.events last shown.last
    listed.listed (listed_in e a p listed.ranges listed.of_components shown.last shown.events shown.listed) begun.hold begun.within
    shown.lines status shown.ends in (
      front.0 ++ shown.counted,
      shown.whole ∙ ap (λ t. t ++ shown.counted) front.1 ∙ append_assoc (lines telling events) front.0 shown.counted ∙ ap (λ t. t ++ (front.0 ++ shown.counted)) (sym begun.written),
    )

pub first_lines_are_a_front : FirstLinesAreAFront
first_lines_are_a_front r file source first text status (ShowBegins.bindings g a e p last events all search listed begun) answer =
    front_shown r g a e p last events first text status listed begun (events_are_shown r file source g a e p text status all search answer)

-- ---- whatever is written

-- a front of a front
front_again : (text front written : List ℕ) → IsFront text front → IsFront front written → IsFront text written
front_again text front written p q = (q.0 ++ p.0, p.1 ∙ ap (λ t. t ++ p.0) q.1 ∙ append_assoc written q.0 p.0)

begun_front : (job : Job) (file source first text : List ℕ) (status : Status) → JobBegins job source first → Answer job file source text status → IsFront text first
begun_front (Check types details format) file source first text status begins answer = absurd begins
begun_front (Why r) file source first text status begins answer = absurd begins
begun_front (Reach x) file source first text status begins answer = first_turns_are_a_front x file source first text status begins answer
begun_front (Show r) file source first text status begins answer =
    first_lines_are_a_front r file source first text status begins answer

pub parts_are_fronts : EveryRequestIsAnswered → PartsAreFronts
parts_are_fronts every job file source written limited (inl none) =
    let (text, status, answer) = every job file source limited in
    (text, status, answer, (text, ap (λ t. t ++ text) (sym none)))
parts_are_fronts every job file source written limited (inr (inl part)) = part
parts_are_fronts every job file source written limited (inr (inr (first, begins, front))) =
    let (text, status, answer) = every job file source limited in
    (text, status, answer, front_again text first written (begun_front job file source first text status begins answer) front)
