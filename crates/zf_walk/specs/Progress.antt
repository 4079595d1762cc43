-- What a walk is seen as, and what its steps do.
use Rattle.std.specs.Prelude.{◌≡◌, ◌⊎◌, ◌↔◌, ℕ, ◌<◌, ◌≤◌, Bool, false, List, [], length, take, Option, Some, None, Contains, AllPairs, IsTrue}
use Rattle.std.specs.declared.cmp.Ordering.{Ordering}
use Rattle.zf_walk.specs.declared.judge.Truth.TheVariants.{True, Out}
use Rattle.zf_walk.specs.declared.step.Step.{Step}
use Rattle.zf_walk.specs.declared.step.Step.TheVariants.{Holds, Breaks, End}
use Rattle.zf_walk.specs.Conjuncts.{Conjuncts}
use Rattle.zf_walk.specs.Rows.{ComesAfter}
use Rattle.zf_walk.specs.Events.{Event, IsEvent}
use Rattle.zf_walk.specs.Tests.{IsNumberOfTests, cut}
use Rattle.zf_walk.specs.TestBounds.{IsBound}

-- each conjunct needs at most so many values
abbrev pub AreDueWithin : {V : Type 0} → Conjuncts V → ℕ → Type 0
AreDueWithin s n = (c : ℕ) → c < s.number → s.due c ≤ n

-- The rows that are still ahead: those greater than all that begin with the path, and where `here` holds those that begin with it.
pub record Ahead (V : Type 0) : Type 0 where
  pub path : List V
  pub here : Bool

abbrev pub IsAhead : {V : Type 0} → (V → V → Ordering) → Ahead V → List V → Type 0
IsAhead cmp a row = ComesAfter cmp a.path (take (length a.path) row) ⊎ (IsTrue a.here × (take (length a.path) row ≡ a.path))

-- those greater than this one
abbrev pub past : {V : Type 0} → List V → Ahead V
past row = record { path = row; here = false }

-- none
abbrev pub ended : {V : Type 0} → Ahead V
ended = record { path = []; here = false }

-- Where a search stands between its steps: what it goes over, the row that the last step gave or none, and the rows that are still ahead.
pub record Stage (V : Type 0) : Type 0 where
  pub ranges : List (List V)
  pub after : Option (List V)
  pub last : Option (List V)
  pub ahead : Ahead V

-- it goes over the same rows
pub record SameRanges {V : Type 0} (old new : Stage V) : Type 0 where
  pub ranges : new.ranges ≡ old.ranges
  pub after : new.after ≡ old.after

-- A walk: what it asks, where it stands, and the number of finished tests.
pub record Progress (V J : Type 0) : Type 0 where
  pub judge : J
  pub stage : Stage V
  pub tests : ℕ

-- what no step changes
pub record SameProblem {V J : Type 0} (old new : Progress V J) : Type 0 where
  pub judge : new.judge ≡ old.judge
  pub stage : SameRanges old.stage new.stage

-- The event is the first one ahead, and is passed.
pub record Takes {V : Type 0} (cmp : V → V → Ordering) (s : Conjuncts V) (ranges : List (List V)) (after : Option (List V)) (old : Ahead V) (e : Event V) (new : Ahead V) : Type 0 where
  pub event : IsEvent cmp s ranges after e
  pub ahead : IsAhead cmp old e.row
  pub first : (f : Event V) → IsEvent cmp s ranges after f → IsAhead cmp old f.row → (f ≡ e) ⊎ ComesAfter cmp e.row f.row
  pub passed : new ≡ past e.row

-- every event is ahead
abbrev pub AreAllAhead : {V : Type 0} → (V → V → Ordering) → Conjuncts V → List (List V) → Option (List V) → Ahead V → Type 0
AreAllAhead {V} cmp s ranges after a = (e : Event V) → IsEvent cmp s ranges after e → IsAhead cmp a e.row

-- no event is ahead
abbrev pub IsNoneAhead : {V : Type 0} → (V → V → Ordering) → Conjuncts V → List (List V) → Option (List V) → Ahead V → Type 0
IsNoneAhead {V} cmp s ranges after a = (e : Event V) → IsEvent cmp s ranges after e → IsAhead cmp a e.row → ⊥

-- the same events are ahead
abbrev pub SameAhead : {V : Type 0} → (V → V → Ordering) → Conjuncts V → List (List V) → Option (List V) → Ahead V → Ahead V → Type 0
SameAhead {V} cmp s ranges after old new = (e : Event V) → IsEvent cmp s ranges after e → IsAhead cmp old e.row ↔ IsAhead cmp new e.row

-- A step answers with the first event that is ahead, or says that there is none.
abbrev pub Advances : {V : Type 0} → (V → V → Ordering) → Conjuncts V → Step → Stage V → Stage V → Type 0
Advances {V} cmp s Holds old new = (row : List V) × (new.last ≡ Some row) × Takes cmp s old.ranges old.after old.ahead (record { row = row; truth = True }) new.ahead
Advances {V} cmp s Breaks old new = (row : List V) × (new.last ≡ Some row) × Takes cmp s old.ranges old.after old.ahead (record { row = row; truth = Out }) new.ahead
Advances cmp s End old new = (new.last ≡ None) × IsNoneAhead cmp s old.ranges old.after old.ahead × (new.ahead ≡ ended)

-- A step that is refused gives no row, and the same events are ahead.
abbrev pub Stays : {V : Type 0} → (V → V → Ordering) → Conjuncts V → Stage V → Stage V → Type 0
Stays cmp s old new = SameAhead cmp s old.ranges old.after old.ahead new.ahead × (new.last ≡ None)

-- the tests so far are those up to this row, or up to the end
abbrev pub AreTests : {V J : Type 0} → (V → V → Ordering) → Conjuncts V → Progress V J → Option (List V) → Type 0
AreTests cmp s b whole = (number : ℕ) × IsNumberOfTests cmp s b.stage.ranges b.stage.after whole number × (b.tests ≡ cut number)

-- so many tests are no more than those up to any event that is ahead, those up to the end, and all that there are
pub record IsBounded {V J : Type 0} (cmp : V → V → Ordering) (s : Conjuncts V) (b : Progress V J) (tests : ℕ) : Type 0 where
  pub before_events : (e : Event V) (number : ℕ) → IsEvent cmp s b.stage.ranges b.stage.after e → IsAhead cmp b.stage.ahead e.row
      → IsNumberOfTests cmp s b.stage.ranges b.stage.after (Some e.row) number → tests ≤ number
  pub before_end : (number : ℕ) → IsNumberOfTests cmp s b.stage.ranges b.stage.after None number → tests ≤ number
  pub within_bound : (bound : ℕ) → IsBound s b.stage.ranges bound → tests ≤ bound

-- the strictly ascending list whose members are exactly the events that are ahead
pub record IsRest {V : Type 0} (cmp : V → V → Ordering) (s : Conjuncts V) (ranges : List (List V)) (after : Option (List V)) (a : Ahead V) (events : List (Event V)) : Type 0 where
  pub ascending : AllPairs (λ (e f : Event V). ComesAfter cmp e.row f.row) events
  pub members : (e : Event V) → Contains events e ↔ (IsEvent cmp s ranges after e × IsAhead cmp a e.row)
