-- What is written of a search for bindings: the lines of its events up to the last one that is written, and how it ends there.
use Rattle.std.specs.Prelude.{◌≡◌, ◌↔◌, ℕ, Bool, true, false, ◌<◌, ◌≤◌, List, [], ◌∷◌, ◌++◌, length, Option, Some, None, Contains, All, AllPairs, IfSome}
use Rattle.zf_lines.specs.Prelude.{True, Out, ComesAfter, cut, Event, IsEvent, IsUpTo, Value, value_order, Environment, AreTests, Portion, property, Format, Comp, Schema, Spelling}
use Rattle.std.specs.List.{flat_map}
use Rattle.std.specs.declared.cmp.Ordering.{Ordering}
use Rattle.zf_walk.specs.Conjuncts.{Conjuncts}
use Rattle.zf_ranges.specs.{AreRanges}
use Rattle.zf_lines.specs.Texts.{end_line, more_line, out_line, row_line, tests_line}
use Rattle.zf_lines.specs.declared.fault.Status.{Status}
use Rattle.zf_lines.specs.declared.fault.Status.TheVariants.{Done, PastBounds}

-- the strictly ascending list whose members are exactly the events up to a whole row, or all where there is none
pub record AreEventsUpTo {V : Type 0} (cmp : V → V → Ordering) (s : Conjuncts V) (ranges : List (List V)) (after whole : Option (List V)) (events : List (Event V)) : Type 0 where
  pub ascending : AllPairs (λ (e f : Event V). ComesAfter cmp e.row f.row) events
  pub members : (e : Event V) → Contains events e ↔ (IsEvent cmp s ranges after e × IsUpTo cmp whole e.row)

abbrev pub Hold : {V : Type 0} → List (Event V) → Type 0
Hold events = All (λ e. e.truth ≡ True) events

-- in which lines a search is written: each of its rows, and last that a row is out of bounds, that the limit is reached, or that no row is left; and the number of tests
pub record Wording (V : Type 0) : Type 0 where
  pub line : List V → List ℕ
  pub out : List V → List ℕ
  pub more : List ℕ
  pub end : List ℕ
  pub tests : ℕ → List ℕ

abbrev pub row_wording : Format → List Spelling → List Comp → Wording Value
row_wording f ss comps = record { line = row_line f ss comps; out = out_line f ss comps; more = more_line f; end = end_line f; tests = tests_line f }

abbrev pub lines : {V : Type 0} → Wording V → List (Event V) → List ℕ
lines w events = flat_map (λ e. w.line e.row) events

-- a limit is at least 1
abbrev pub HasLimit : Option ℕ → Type 0
HasLimit limit = IfSome limit (λ n. 0 < n)

-- so many are fewer than the limit, if there is one
abbrev pub IsBelow : Option ℕ → ℕ → Type 0
IsBelow limit n = IfSome limit (λ most. n < most)

-- The text and the status of events up to the last one that is written: the limit is reached, or the last one is out, or no event is left.
pub data IsWritten {V : Type 0} (w : Wording V) (limit : Option ℕ) (events : List (Event V)) (last : Option (List V)) (text : List ℕ) (status : Status) : Type 0 where
  pauses : (front : List (Event V)) (e : Event V) → events ≡ front ++ e ∷ [] → last ≡ Some e.row → Hold events → limit ≡ Some (length events)
      → text ≡ lines w events ++ w.more → status ≡ Done → IsWritten w limit events last text status
  breaks : (front : List (Event V)) (e : Event V) → events ≡ front ++ e ∷ [] → last ≡ Some e.row → Hold front → e.truth ≡ Out → IsBelow limit (length front)
      → text ≡ lines w front ++ w.out e.row → status ≡ PastBounds → IsWritten w limit events last text status
  ends : last ≡ None → Hold events → IsBelow limit (length events) → text ≡ lines w events ++ w.end → status ≡ Done
      → IsWritten w limit events last text status

-- the first lines of it: those of events up to a row, all of which hold and are no more than the limit
abbrev pub IsNotAbove : Option ℕ → ℕ → Type 0
IsNotAbove limit n = IfSome limit (λ most. n ≤ most)

pub record IsBegun {V : Type 0} (w : Wording V) (limit : Option ℕ) (events : List (Event V)) (last : Option (List V)) (text : List ℕ) : Type 0 where
  pub front : List (Event V)
  pub event : Event V
  pub listed : events ≡ front ++ event ∷ []
  pub up_to : last ≡ Some event.row
  pub hold : Hold events
  pub within : IsNotAbove limit (length events)
  pub written : text ≡ lines w events

-- the events of a schema up to a whole row, or all of them
pub record HasEvents (e : Environment) (a : Schema) (p : Portion) (whole : Option (List Value)) (events : List (Event Value)) : Type 0 where
  pub ranges : List (List Value)
  pub of_components : AreRanges e a.comps p.held ranges
  pub listed : AreEventsUpTo value_order (property e a.conjuncts) ranges p.after whole events

-- the line of the number of tests up to a whole row, or of all, if it is asked for
abbrev pub IsTestsLine : Wording Value → (tests : Bool) → Environment → Schema → Portion → (whole : Option (List Value)) → List ℕ → Type 0
IsTestsLine w false e a p whole text = text ≡ []
IsTestsLine w true e a p whole text = (number : ℕ) × AreTests e a p whole number × (text ≡ w.tests (cut number))
