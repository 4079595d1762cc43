-- What is written of a search that stands at its beginning.
use Rattle.std.specs.Prelude.{◌≡◌, ◌⊎◌, ℕ, Bool, true, false, List, [], ◌++◌, map, Option, None}
use Rattle.zf_lines.specs.Prelude.{resolved_of, Schema, Value, AreAllAhead, cut, Event, IsNumberOfTests, Stage, value_order, Environment, conjuncts_of, counted_goal, Goal, property}
use Rattle.zf_plan.specs.{SayTheSame}
use Rattle.zf_enum.specs.declared.bindings.Bindings.{Bindings}
use Rattle.zf_lines.specs.declared.fault.Status.{Status}
use Rattle.zf_lines.specs.FaultViews.{AppendsFront}
use Rattle.zf_lines.specs.Searches.{AreEventsUpTo, IsBegun, IsWritten, Wording}

-- the search for the bindings of the schema that are in its ranges and come after its row is at its beginning
pub record IsAtStart (a : Schema) (g : Goal) (b : Stage Value) : Type 0 where
  pub same : SayTheSame (conjuncts_of g) (property g.environment a.conjuncts)
  pub ahead : AreAllAhead value_order (property g.environment a.conjuncts) b.ranges b.after b.ahead
  pub first : b.last ≡ None

-- the same of one that counts its tests
pub record IsCountingAtStart (a : Schema) (b : Bindings) : Type 0 where
  pub starts : IsAtStart a (counted_goal b.walk) b.walk.stage
  pub conjuncts : map resolved_of b.walk.judge.conjuncts ≡ a.conjuncts
  pub untested : b.walk.tests ≡ 0

-- the events of such a search up to a whole row, or all of them
abbrev pub FindsEvents : Environment → Schema → Stage Value → (whole : Option (List Value)) → List (Event Value) → Type 0
FindsEvents e a b whole events = AreEventsUpTo value_order (property e a.conjuncts) b.ranges b.after whole events

-- the line of the number of its tests up to a whole row, or of all, if it is asked for
abbrev pub TellsTests : Wording Value → (tests : Bool) → Environment → Schema → Stage Value → (whole : Option (List Value)) → List ℕ → Type 0
TellsTests w false e a b whole text = text ≡ []
TellsTests w true e a b whole text = (number : ℕ) × IsNumberOfTests value_order (property e a.conjuncts) b.ranges b.after whole number × (text ≡ w.tests (cut number))

-- nothing, or the first lines of a search
abbrev pub IsSome : Wording Value → (limit : Option ℕ) → Environment → Schema → (b : Stage Value) → List ℕ → Type 0
IsSome w limit e a b text = (text ≡ []) ⊎ ((events : List (Event Value)) × (last : Option (List Value)) × FindsEvents e a b last events × IsBegun w limit events last text)

-- what is written when the lines stop early: a front of the first lines
abbrev pub StopsLines : Wording Value → (limit : Option ℕ) → Environment → Schema → (b : Stage Value) → Option (List ℕ) → Option (List ℕ) → Type 0
StopsLines w limit e a b old new = (text : List ℕ) × IsSome w limit e a b text × AppendsFront old new text

-- the text and the status of the whole search
pub record WritesAll (w : Wording Value) (limit : Option ℕ) (tests : Bool) (e : Environment) (a : Schema) (b : Stage Value) (text : List ℕ) (status : Status) : Type 0 where
  pub last : Option (List Value)
  pub events : List (Event Value)
  pub written : List ℕ
  pub counted : List ℕ
  pub listed : FindsEvents e a b last events
  pub ends : IsWritten w limit events last written status
  pub numbered : TellsTests w tests e a b last counted
  pub whole : text ≡ written ++ counted

abbrev pub StopsShown : Wording Value → (limit : Option ℕ) → (tests : Bool) → Environment → Schema → (b : Stage Value) → Option (List ℕ) → Option (List ℕ) → Type 0
StopsShown w limit tests e a b old new = StopsLines w limit e a b old new
    ⊎ ((text : List ℕ) × (status : Status) × WritesAll w limit tests e a b text status × AppendsFront old new text)
