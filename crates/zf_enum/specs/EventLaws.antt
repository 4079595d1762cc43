-- What is claimed of the events of a schema: that there is one list of them, how it goes on after a row, and the bound of its tests.
use Rattle.std.specs.Prelude.{◌≡◌, ℕ, ◌≤◌, List, ◌∷◌, ◌++◌, Option}
use Rattle.zf_enum.specs.Prelude.{Schema, Value, value_order, Event, IsBound, IsEvents, Environment, AreRanges}
use Rattle.zf_enum.specs.Property.{property}
use Rattle.zf_enum.specs.Portions.{Portion}
use Rattle.zf_enum.specs.PortionViews.{behind}
use Rattle.zf_enum.specs.Events.{AreTests}

-- the list of the events
pub record AreEvents (e : Environment) (s : Schema) (p : Portion) (events : List (Event Value)) : Type 0 where
  pub ranges : List (List Value)
  pub of_components : AreRanges e s.comps p.held ranges
  pub listed : IsEvents value_order (property e s.conjuncts) ranges p.after events

-- the number of all pairs of a row of first values, where these are held, and a conjunct that may be tested there
pub record IsBoundOf (e : Environment) (s : Schema) (held : List (Option Value)) (bound : ℕ) : Type 0 where
  pub ranges : List (List Value)
  pub of_components : AreRanges e s.comps held ranges
  pub counted : IsBound (property e s.conjuncts) ranges bound

-- There is one list of ranges.
abbrev pub OneRanges : Type 0
OneRanges = (e : Environment) (s : Schema) (held : List (Option Value)) (xs ys : List (List Value)) → AreRanges e s.comps held xs → AreRanges e s.comps held ys → xs ≡ ys

-- There is one list of events.
abbrev pub OneEvents : Type 0
OneEvents = (e : Environment) (s : Schema) (p : Portion) (xs ys : List (Event Value)) → AreEvents e s p xs → AreEvents e s p ys → xs ≡ ys

-- What follows an event in the list is the list of the events after its row.
abbrev pub EventsResume : Type 0
EventsResume = (e : Environment) (s : Schema) (p : Portion) (front : List (Event Value)) (x : Event Value) (rest : List (Event Value))
    → AreEvents e s p (front ++ x ∷ rest) → AreEvents e s (behind x.row p) rest

-- No search makes more tests than the bound of what is held, whichever row is named.
abbrev pub TestsAreBound : Type 0
TestsAreBound = (e : Environment) (s : Schema) (p : Portion) (whole : Option (List Value)) (number bound : ℕ)
    → AreTests e s p whole number → IsBoundOf e s p.held bound → number ≤ bound
