-- What is claimed of parts alone.
use Rattle.std.specs.Prelude.{◌≡◌, ◌↔◌, ℕ, List, Option, AllPairs, Contains}
use Rattle.zf_parts.specs.Prelude.{Value, value_order, False, ComesAfter, Event, IsLater, Status, Wording, values_at}
use Rattle.zf_parts.specs.Parts.{AreParts, Part}
use Rattle.zf_parts.specs.Written.{ArePartsWritten}

-- the events are in their order
abbrev pub Ascend : List (Event Value) → Type 0
Ascend events = AllPairs (λ (e f : Event Value). ComesAfter value_order e.row f.row) events

-- Events have one list of parts.
abbrev pub OneListOfParts : Type 0
OneListOfParts = (places : List ℕ) (after : Option (List Value)) (events : List (Event Value)) (xs ys : List Part) → AreParts places after events xs → AreParts places after events ys → xs ≡ ys

-- Events in their order have a list of parts.
abbrev pub SomeListOfParts : Type 0
SomeListOfParts = (places : List ℕ) (after : Option (List Value)) (events : List (Event Value)) → Ascend events → (parts : List Part) × AreParts places after events parts

-- Its values are exactly those that some event has, of those that come after the named ones.
abbrev pub HasEachPart : Type 0
HasEachPart = (places : List ℕ) (after : Option (List Value)) (events : List (Event Value)) (parts : List Part) → Ascend events → AreParts places after events parts
    → (values : List Value) → ((p : Part) × Contains parts p × (p.values ≡ values)) ↔ (((x : Event Value) × Contains events x × (values_at places x.row ≡ values)) × IsLater value_order after values)

-- Parts have one text and one status.
abbrev pub OneTextOfParts : Type 0
OneTextOfParts = (w : Wording Value) (limit : Option ℕ) (parts : List Part) (text other : List ℕ) (status last : Status)
    → ArePartsWritten w limit parts text status → ArePartsWritten w limit parts other last → (text ≡ other) × (status ≡ last)

-- Parts of events have a text and a status.
abbrev pub SomeTextOfParts : Type 0
SomeTextOfParts = (w : Wording Value) (limit : Option ℕ) (places : List ℕ) (after : Option (List Value)) (events : List (Event Value)) (parts : List Part)
    → ((x : Event Value) → Contains events x → x.truth ≡ False → ⊥) → AreParts places after events parts → (text : List ℕ) × (status : Status) × ArePartsWritten w limit parts text status
