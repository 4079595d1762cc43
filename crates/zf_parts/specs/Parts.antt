-- The parts of bindings: what values they have at some places.
use Rattle.std.specs.Prelude.{◌≡◌, ◌⊎◌, ◌↔◌, ℕ, List, Option, None, AllPairs, Contains}
use Rattle.zf_parts.specs.Prelude.{Schema, Value, value_order, ComesAfter, Event, IsLater, Environment, Portion, HasEvents, values_at}

-- the values of a part, and an event whose row has them
pub record Part : Type 0 where
  pub values : List Value
  pub first : Event Value

-- the first of the events whose rows have these values at the places
pub record IsFirstWith (places : List ℕ) (events : List (Event Value)) (values : List Value) (x : Event Value) : Type 0 where
  pub event : Contains events x
  pub has : values_at places x.row ≡ values
  pub first : (y : Event Value) → Contains events y → values_at places y.row ≡ values → (y ≡ x) ⊎ ComesAfter value_order x.row y.row

-- the strictly ascending list of exactly the parts that events have, of those that come after a part, if one is named; each with the first event that has it
pub record AreParts (places : List ℕ) (after : Option (List Value)) (events : List (Event Value)) (parts : List Part) : Type 0 where
  pub ascending : AllPairs (λ (p q : Part). ComesAfter value_order p.values q.values) parts
  pub members : (p : Part) → Contains parts p ↔ (IsFirstWith places events p.values p.first × IsLater value_order after p.values)

-- those of the events of a schema
pub record HasParts (e : Environment) (a : Schema) (p : Portion) (places : List ℕ) (after : Option (List Value)) (parts : List Part) : Type 0 where
  pub events : List (Event Value)
  pub listed : HasEvents e a p None events
  pub are : AreParts places after events parts
