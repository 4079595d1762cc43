-- A schema in an environment, and what `why` finds of it. What is answered does not rest on this file.
use Rattle.std.specs.Prelude.{◌≡◌, ℕ, Bool, List, [], length, Option, Some, None, IsSomeAnd, option_map, Vec}
use Rattle.zf_answers.specs.Prelude.{Global, Comp, Schema, schema_of, IsFinite, Value, AreDueWithin, Stage, Environment, environment_of, Begins, Goal, Portion, portion, property, spellings, split_at, Explains, RuleOut, Cause, Empty, Alone, Together, Status, HasEvents, out_line, row_line, Request, comps_at}
use Rattle.zf_answers.specs.Answers.{AreHeld, IsAsked, IsNamedRow}
use Rattle.zf_answers.specs.Only.{NamesParts}
use Rattle.zf_answers.specs.declared.bounds.Bounds.{Bounds}
use Rattle.zf_answers.specs.declared.bounds.Chosen.{Chosen}
use Rattle.zf_answers.specs.Reasons.{TellsWhy}
use Rattle.zf_answers.specs.CauseLines.{cause_lines}
use Rattle.zf_answers.specs.declared.subject.Subject.{Subject}

abbrev pub environment_in : Subject → Environment
environment_in s = environment_of s.env.now

abbrev pub schema_in : Subject → Schema
schema_in s = schema_of s.schema.now

-- its bindings with the values that are held
abbrev pub portion_in : Subject → Portion
portion_in s = portion None s.held.now

-- the line of a row
abbrev pub line_in : Subject → List Value → List ℕ
line_in s row = row_line s.style.now.format s.style.now.elements.now (schema_in s).comps row

-- that it is out of bounds
abbrev pub out_line_in : Subject → List Value → List ℕ
out_line_in s row = out_line s.style.now.format s.style.now.elements.now (schema_in s).comps row

-- a search of it can begin, and its elements have these spellings
pub record CanBeSearched (s : Subject) : Type 0 where
  pub finite : IsFinite (environment_in s).numbers (environment_in s).globals (schema_in s)
  pub due : AreDueWithin (property (environment_in s) (schema_in s).conjuncts) (length (schema_in s).comps)
  pub spelled : s.style.now.elements.now ≡ spellings (environment_in s).globals

-- it is what the request asks for of a source: its schema in its environment, with the values that it holds, in its format
pub record IsSubjectOf (r : Request) (source : List ℕ) (s : Subject) : Type 0 where
  pub asked : IsAsked r source (environment_in s).globals (schema_in s) (environment_in s)
  pub held : AreHeld (environment_in s) (schema_in s).comps r.held s.held.now
  pub spelled : s.style.now.elements.now ≡ spellings (environment_in s).globals
  pub formed : s.style.now.format ≡ r.format

-- these are the components that alone are shown, if some are named
abbrev pub IsChosenBy : List Comp → (only : Option (List ℕ)) → Option Chosen → Type 0
IsChosenBy comps None chosen = chosen ≡ None
IsChosenBy comps (Some text) chosen = IsSomeAnd chosen (λ c. NamesParts comps text c.places.items × ((schema_of c.schema.now).comps ≡ comps_at comps c.places.items))

-- the components of a line
abbrev pub shown_in : List Comp → Option Chosen → List Comp
shown_in comps None = comps
shown_in comps (Some chosen) = (schema_of chosen.schema.now).comps

-- these are the components and the row that the request names
pub record AreNamedIn (e : Environment) (comps : List Comp) (r : Request) (b : Bounds) : Type 0 where
  pub chosen : IsChosenBy comps r.only b.chosen
  pub after : IsNamedRow e (shown_in comps b.chosen) r.after (option_map (λ (v : Vec Value Global). v.items) b.after)

-- what goes by this and stands here is the search of it
abbrev pub IsBegunOf : Subject → Goal → Stage Value → Type 0
IsBegunOf s g b = Begins (environment_in s) (schema_in s) (portion_in s) g b

-- the answer for it
abbrev pub TellsOf : Subject → (details : Bool) → (file source text : List ℕ) → Status → Type 0
TellsOf s details file source text status = TellsWhy s.style.now.format details file source (environment_in s).globals (schema_in s) (environment_in s) (portion_in s) text status

-- that of its first event, which names neither file nor source and has no details
abbrev pub TellsFirst : Subject → (text : List ℕ) → Status → Type 0
TellsFirst s text status = (details : Bool) (file source : List ℕ) → TellsOf s details file source text status

-- it has no event
pub record HasNone (s : Subject) : Type 0 where
  pub events : HasEvents (environment_in s) (schema_in s) (portion_in s) None []
  pub none : RuleOut (environment_in s) (schema_in s).comps s.held.now (schema_in s).conjuncts

-- the text says why
abbrev pub TellsNone : Subject → (details : Bool) → (file source text : List ℕ) → Type 0
TellsNone s details file source text =
    (cause : Cause) × Explains (environment_in s) (schema_in s) s.held.now details (split_at s.schema.now.conjuncts) cause × (text ≡ cause_lines s.style.now.format details file source s.style.now.elements.now (schema_in s) cause)

-- a cause of empty ranges speaks of each component
abbrev pub IsOfSchema : Schema → Cause → Type 0
IsOfSchema a (Empty empty) = length empty.items ≡ length a.comps
IsOfSchema a (Alone told) = Unit {0}
IsOfSchema a (Together told) = Unit {0}
