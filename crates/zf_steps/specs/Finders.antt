-- Where a search stands, and how it goes on.
use Rattle.std.specs.Prelude.{◌≡◌, List, [], Option, None, Some, Result, IfOk, OnOk, unwrap_or}
use Rattle.zf_steps.specs.Prelude.{Schema, Value, value_order, Advances, AreAllAhead, SameRanges, Stage, Environment, property, AreRanges}
use Rattle.zf_steps.specs.declared.stepped.Stepped.{Stepped}

-- before all events of the schema that have these values
pub record BeginsFor (e : Environment) (a : Schema) (held : List (Option Value)) (b : Stage Value) : Type 0 where
  pub ranges : AreRanges e a.comps held b.ranges
  pub named : b.after ≡ None
  pub ahead : AreAllAhead value_order (property e a.conjuncts) b.ranges None b.ahead

-- Where a search stands, and for which schemas, in which environments, it is one.
pub record Place : Type 1 where
  pub stage : Stage Value
  pub IsFor : Environment → Schema → Type 0

-- the same of a value that stands so
abbrev pub stage_in : {S : Type 0} → (S → Place) → S → Stage Value
stage_in place s = (place s).stage

abbrev pub IsForIn : {S : Type 0} → (S → Place) → S → Environment → Schema → Type 0
IsForIn place s e a = (place s).IsFor e a

-- ---- what its steps come to. Each is one word over the places before and after, so that a contract names the search no more often than that.

-- it is a search
pub record IsSearch (p : Place) : Type 0 where
  pub environment : Environment
  pub schema : Schema
  pub is : p.IsFor environment schema

-- it is for what it was for
abbrev pub IsKept : (old new : Place) → Type 0
IsKept old new = (e : Environment) (a : Schema) → old.IsFor e a → new.IsFor e a

-- it is begun with these values
pub record BeginsAgain {U E : Type 0} (old new : Place) (held : List (Option Value)) (result : Result U E) : Type 0 where
  pub kept : IsKept old new
  pub begins : OnOk result ((e : Environment) (a : Schema) → old.IsFor e a → BeginsFor e a held new.stage)

-- it goes on to the next binding that is not False, and gives it
pub record GoesAhead {E : Type 0} (old new : Place) (result : Result Stepped E) : Type 0 where
  pub kept : IsKept old new
  pub ranges : SameRanges old.stage new.stage
  pub answer : IfOk result (λ s. (e : Environment) (a : Schema) → old.IsFor e a → Advances value_order (property e a.conjuncts) s.step old.stage new.stage)
  pub row : IfOk result (λ s. s.row.items ≡ unwrap_or new.stage.last [])

-- it is begun with these values, or goes on
abbrev pub MayGo : Place → (held : Option (List (Option Value))) → Type 0
MayGo p None = Unit {0}
MayGo p (Some held) = IsSearch p

abbrev pub Goes : {E : Type 0} → (old new : Place) → (held : Option (List (Option Value))) → Result Stepped E → Type 0
Goes old new None result = GoesAhead old new result
Goes old new (Some held) result = BeginsAgain old new held result
