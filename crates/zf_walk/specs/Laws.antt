-- What is claimed of the definitions alone, of some conjuncts.
use Rattle.std.specs.Prelude.{◌≡◌, ◌↔◌, ℕ, ◌≤◌, List, [], ◌∷◌, ◌++◌, Option, Some}
use Rattle.std.specs.declared.cmp.Ordering.{Ordering}
use Rattle.zf_walk.specs.Conjuncts.{Conjuncts}
use Rattle.zf_walk.specs.RowLaws.{TiesAreEqual}
use Rattle.zf_walk.specs.Events.{Event}
use Rattle.zf_walk.specs.EventLists.{IsEvents}
use Rattle.zf_walk.specs.Tests.{IsNumberOfTests}
use Rattle.zf_walk.specs.TestBounds.{IsBound}
use Rattle.zf_walk.specs.Progress.{Ahead, AreAllAhead, Takes, IsNoneAhead, IsRest}

-- There is one list of the events.
abbrev pub HasOneList : {V : Type 0} → (V → V → Ordering) → Conjuncts V → Type 0
HasOneList {V} cmp s = (ranges : List (List V)) (after : Option (List V)) (xs ys : List (Event V))
    → IsEvents cmp s ranges after xs → IsEvents cmp s ranges after ys → xs ≡ ys

-- What follows an event in the list is the list of the events after its row.
abbrev pub Resumes : {V : Type 0} → (V → V → Ordering) → Conjuncts V → Type 0
Resumes {V} cmp s = (ranges : List (List V)) (after : Option (List V)) (front : List (Event V)) (e : Event V) (rest : List (Event V))
    → IsEvents cmp s ranges after (front ++ e ∷ rest) → IsEvents cmp s ranges (Some e.row) rest

-- Where every event is ahead the list of those ahead is the list of the events.
abbrev pub StartsWithAll : {V : Type 0} → (V → V → Ordering) → Conjuncts V → Type 0
StartsWithAll {V} cmp s = (ranges : List (List V)) (after : Option (List V)) (a : Ahead V) → AreAllAhead cmp s ranges after a
    → (events : List (Event V)) → IsRest cmp s ranges after a events ↔ IsEvents cmp s ranges after events

-- What was ahead is the event that is taken, and then what is ahead now.
abbrev pub TakesFirst : {V : Type 0} → (V → V → Ordering) → Conjuncts V → Type 0
TakesFirst {V} cmp s = TiesAreEqual cmp → (ranges : List (List V)) (after : Option (List V)) (old new : Ahead V) (e : Event V) → Takes cmp s ranges after old e new
    → (rest : List (Event V)) → IsRest cmp s ranges after old (e ∷ rest) ↔ IsRest cmp s ranges after new rest

-- Where no event is ahead the list is empty.
abbrev pub EndsWithNone : {V : Type 0} → (V → V → Ordering) → Conjuncts V → Type 0
EndsWithNone {V} cmp s = (ranges : List (List V)) (after : Option (List V)) (a : Ahead V) → IsNoneAhead cmp s ranges after a → IsRest cmp s ranges after a []

-- No walk makes more tests than there are pairs, whichever row is named.
abbrev pub StaysWithinBound : {V : Type 0} → (V → V → Ordering) → Conjuncts V → Type 0
StaysWithinBound {V} cmp s = (ranges : List (List V)) (after whole : Option (List V)) (number bound : ℕ)
    → IsNumberOfTests cmp s ranges after whole number → IsBound s ranges bound → number ≤ bound
