-- A search that can begin has all that is asked of it: a component that is out or none, ranges, events, and a number of tests.
use Rattle.std.specs.Prelude.{◌≡◌, ◌≢◌, ◌≤◌, ◌⊎◌, IsTrue, ℕ, Bool, List, Option}
use Rattle.std.specs.List.{AllByRecursion}
use Rattle.zf_term.specs.{Comp, Schema, sets_of}
use Rattle.zf_finite.specs.{one_bounds}
use Rattle.zf_value.specs.declared.plain.Value.{Value}
use Rattle.zf_walk.specs.declared.judge.Truth.{Truth}
use Rattle.zf_walk.specs.declared.judge.Truth.TheVariants.{False}
use Rattle.zf_walk.specs.{Event}
use Rattle.zf_meaning.specs.{Environment}
use Rattle.zf_enum.specs.{AreEvents, IsBoundOf, Portion}
use Rattle.zf_ranges.specs.{AreRanges, IsFirstOut, IsNoneOut}
use Rattle.zf_graph.specs.{EachIsTold, EachNodeHasTurn, IsSomehowSearched}
use Rattle.zf_steps.specs.declared.node.Node.TheVariants.{State}
use Rattle.zf_steps.specs.{CanExplore, explored_in, HasRow, IsOther, IsSought, Satisfies, sought_in, System, test_in, verdict, words}
use Rattle.zf_lines.specs.declared.fault.Status.{Status}
use Rattle.zf_lines.specs.{HasEvents, IsBelow, IsTestsLine, IsWritten, Wording}

-- One component is the first with a declared set that is out, or none has one.
abbrev pub OutIsDecided : Type 0
OutIsDecided = (e : Environment) (cs : List Comp) → ((place : ℕ) × IsFirstOut e cs place) ⊎ IsNoneOut e cs

-- Components that are bounded have ranges, whatever is held. Those of a finite schema are.
abbrev pub EveryRange : Type 0
EveryRange = (e : Environment) (cs : List Comp) (held : List (Option Value)) → AllByRecursion (λ c. IsTrue (one_bounds e.numbers e.globals (sets_of c.sets))) cs → (ranges : List (List Value)) × AreRanges e cs held ranges

-- Where there are ranges, there is the list of the events after any row.
abbrev pub EveryEvent : Type 0
EveryEvent = (e : Environment) (a : Schema) (ranges : List (List Value)) (p : Portion) → AreRanges e a.comps p.held ranges → (events : List (Event Value)) × AreEvents e a p events

-- Where there are ranges, each search has events, after any row and up to any limit from 1 on, and something to write of them.
abbrev pub EverySearch : Type 0
EverySearch =
    (e : Environment) (a : Schema) (ranges : List (List Value)) (p : Portion) (limit : Option ℕ) (w : Wording Value) → AreRanges e a.comps p.held ranges → IsBelow limit 0
    → (last : Option (List Value)) × (events : List (Event Value)) × (text : List ℕ) × (status : Status) × HasEvents e a p last events × IsWritten w limit events last text status

-- Up to any row, or to the end, it has a number of tests.
abbrev pub EveryNumberOfTests : Type 0
EveryNumberOfTests =
    (e : Environment) (a : Schema) (ranges : List (List Value)) (p : Portion) (last : Option (List Value)) (w : Wording Value) (tests : Bool) → AreRanges e a.comps p.held ranges
    → (text : List ℕ) × IsTestsLine w tests e a p last text

-- The tests of all searches have a bound.
abbrev pub EveryBound : Type 0
EveryBound = (e : Environment) (a : Schema) (held : List (Option Value)) (ranges : List (List Value)) → AreRanges e a.comps held ranges → (bound : ℕ) × IsBoundOf e a held bound

-- What is explored of finite schemas has a turn of each node, or a place at which the turn breaks off.
abbrev pub EveryTurn : Type 0
EveryTurn = (m : System) → CanExplore m → EachNodeHasTurn (explored_in m)

-- In a search for a state each state is sought, or another, or it can't be decided; so the search has a result.
abbrev pub EverySight : Type 0
EverySight = (m : System) → CanExplore m → EachIsTold (explored_in m) (sought_in m)

abbrev pub EveryResult : Type 0
EveryResult = (m : System) (limit : ℕ) → CanExplore m → 1 ≤ limit → IsSomehowSearched (explored_in m) (sought_in m) (words m) (verdict m) limit

-- Where states with these components are tested by a schema, one that is sought satisfies it, and another has no row of it, not even one that can't be decided.
abbrev pub SoughtSatisfies : Type 0
SoughtSatisfies =
    (m : System) (state : List Comp) (name : List ℕ) (a : Schema) (values : List Value) → m.test ≡ test_in state name a → IsSought m (State values) → Satisfies m.environment a state values

abbrev pub OtherHasNone : Type 0
OtherHasNone =
    (m : System) (state : List Comp) (name : List ℕ) (a : Schema) (values : List Value) (t : Truth) → CanExplore m → m.test ≡ test_in state name a → IsOther m (State values) → t ≢ False
    → HasRow m.environment a state values t → ⊥
