-- What is written of the parts of a search that stands at its beginning.
use Rattle.std.specs.Prelude.{◌⊎◌, ℕ, List, [], Option, None}
use Rattle.zf_parts.specs.Prelude.{Appends, Schema, Value, Event, Stage, Environment, Status, AppendsFront, FindsEvents, Wording}
use Rattle.zf_parts.specs.Parts.{AreParts, Part}
use Rattle.zf_parts.specs.Written.{ArePartsWritten}

-- the parts of the events of such a search
pub record FindsParts (e : Environment) (a : Schema) (b : Stage Value) (places : List ℕ) (after : Option (List Value)) (parts : List Part) : Type 0 where
  pub events : List (Event Value)
  pub listed : FindsEvents e a b None events
  pub are : AreParts places after events parts

-- their text and status
pub record WritesParts (w : Wording Value) (limit : Option ℕ) (e : Environment) (a : Schema) (b : Stage Value) (places : List ℕ) (after : Option (List Value)) (text : List ℕ) (status : Status) : Type 0 where
  pub parts : List Part
  pub found : FindsParts e a b places after parts
  pub written : ArePartsWritten w limit parts text status

-- what is written where it stops early: nothing, or a front of the text
abbrev pub StopsParts : Wording Value → (limit : Option ℕ) → Environment → Schema → Stage Value → (places : List ℕ) → (after : Option (List Value)) → (old new : Option (List ℕ)) → Type 0
StopsParts w limit e a b places after old new = Appends old new []
    ⊎ ((text : List ℕ) × (status : Status) × WritesParts w limit e a b places after text status × AppendsFront old new text)
