-- The rows that a search finds have the types of the schema's components.
use Rattle.std.specs.Prelude.{◌≡◌, ℕ, List, [], ◌∷◌, MatchOption, Option, Some, slice_get}
use Rattle.law_sound.specs.Prelude.{BoxTree, Comp, Defined, Fault, Schema, schema, Value, value_order, Size, Environment, IsEnvironment, IsOfType, IsRow, AreDefinedOnce, IsChecked, AreWellTyped}
use Rattle.zf_walk.specs.{Event, IsEvent, IsRowOf}
use Rattle.zf_enum.specs.{property}
use Rattle.zf_ranges.specs.{AreRanges, first_held, later_held}

-- each value that is held of a component is of its type
abbrev pub AreHeldTyped : Environment → List Comp → List (Option Value) → Type 0
AreHeldTyped e [] held = Unit {0}
AreHeldTyped e (c ∷ cs) held = MatchOption (first_held held) (Unit {0}) (IsOfType e c.type) × AreHeldTyped e cs (later_held held)

-- of a schema among well typed globals, each row of the ranges of its components has a value of its type for each of them
abbrev pub RowsTyped : Type 0
RowsTyped =
    (g : List Defined) (stated : List Size) (numbers : Option ℕ) (e : Environment) (place : ℕ) (name : List ℕ) (a : Schema) (held : List (Option Value)) (ranges : List (List Value)) (row : List Value)
    → AreWellTyped g → AreDefinedOnce g → IsEnvironment g stated numbers e
    → slice_get g place ≡ Some (record { name = name; definition = schema a }) → AreHeldTyped e a.comps held → AreRanges e a.comps held ranges
    → IsRowOf ranges row → IsRow e a.comps row

-- so has the row of each event
abbrev pub EventsTyped : Type 0
EventsTyped =
    (g : List Defined) (stated : List Size) (numbers : Option ℕ) (e : Environment) (place : ℕ) (name : List ℕ) (a : Schema) (held : List (Option Value)) (ranges : List (List Value)) (after : Option (List Value)) (x : Event Value)
    → AreWellTyped g → AreDefinedOnce g → IsEnvironment g stated numbers e
    → slice_get g place ≡ Some (record { name = name; definition = schema a }) → AreHeldTyped e a.comps held → AreRanges e a.comps held ranges
    → IsEvent value_order (property e a.conjuncts) ranges after x → IsRow e a.comps x.row

-- and of a schema that a text defines
abbrev pub EventsOfTextsTyped : Type 0
EventsOfTextsTyped =
    (boxes : List BoxTree) (g : List Defined) (faults : List Fault) (stated : List Size) (numbers : Option ℕ) (e : Environment) (place : ℕ) (name : List ℕ) (a : Schema)
    (held : List (Option Value)) (ranges : List (List Value)) (after : Option (List Value)) (x : Event Value)
    → IsChecked boxes g faults → IsEnvironment g stated numbers e
    → slice_get g place ≡ Some (record { name = name; definition = schema a }) → AreHeldTyped e a.comps held → AreRanges e a.comps held ranges
    → IsEvent value_order (property e a.conjuncts) ranges after x → IsRow e a.comps x.row
