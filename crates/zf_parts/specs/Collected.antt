-- What is kept of parts. No public clause rests on this file.
use Rattle.std.specs.Prelude.{◌≡◌, ℕ, List, [], ◌∷◌, Option, Some, None}
use Rattle.zf_parts.specs.Prelude.{Appends, Schema, Value, True, Out, Event, Stage, Environment, Status, AppendsFront, Wording}
use Rattle.zf_parts.specs.Parts.{AreParts, Part}
use Rattle.zf_parts.specs.Shown.{FindsParts}
use Rattle.zf_parts.specs.Written.{ArePartsWritten}

-- the values of the part, with the row of its first event if that one is out
abbrev pub IsKeptAs : Part → List Value × Option (List Value) → Type 0
IsKeptAs p (values, None) = (values ≡ p.values) × (p.first.truth ≡ True)
IsKeptAs p (values, Some row) = (values ≡ p.values) × (p.first.truth ≡ Out) × (row ≡ p.first.row)

abbrev pub AreKeptAs : List Part → List (List Value × Option (List Value)) → Type 0
AreKeptAs [] [] = Unit {0}
AreKeptAs [] (entry ∷ entries) = ⊥
AreKeptAs (p ∷ parts) [] = ⊥
AreKeptAs (p ∷ parts) (entry ∷ entries) = IsKeptAs p entry × AreKeptAs parts entries

-- the parts of these events are kept
abbrev pub KeepParts : (places : List ℕ) → (after : Option (List Value)) → List (Event Value) → List (List Value × Option (List Value)) → Type 0
KeepParts places after events entries = (parts : List Part) × AreParts places after events parts × AreKeptAs parts entries

-- those of the events of a search that stood here
abbrev pub AreCollected : Environment → Schema → Stage Value → (places : List ℕ) → (after : Option (List Value)) → List (List Value × Option (List Value)) → Type 0
AreCollected e a b places after entries = (parts : List Part) × FindsParts e a b places after parts × AreKeptAs parts entries

-- the text of the parts that are kept so is written
abbrev pub WritesKept : Wording Value → (limit : Option ℕ) → List (List Value × Option (List Value)) → Status → (old new : Option (List ℕ)) → Type 0
WritesKept w limit entries status old new = (parts : List Part) → AreKeptAs parts entries → (text : List ℕ) × ArePartsWritten w limit parts text status × Appends old new text

-- or a front of it
abbrev pub StopsKept : Wording Value → (limit : Option ℕ) → List (List Value × Option (List Value)) → (old new : Option (List ℕ)) → Type 0
StopsKept w limit entries old new = (parts : List Part) → AreKeptAs parts entries → (text : List ℕ) × (status : Status) × ArePartsWritten w limit parts text status × AppendsFront old new text
