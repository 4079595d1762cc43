-- Held values as a row, and the outcomes of operands in a row. No public clause rests on this.
use Rattle.std.specs.Prelude.{◌≡◌, List, Option, Some, None, map, unwrap_or}
use Rattle.zf_why.specs.Prelude.{Value, Context, HasOutcome}
use Rattle.zf_why.specs.declared.told.Operands.{Operands}
use Rattle.zf_why.specs.Operands.{AreOperandsBy, Related}

-- with another value in the place of those that are not held
abbrev pub filled : (other : Value) → List (Option Value) → List Value
filled other held = map (λ (h : Option Value). unwrap_or h other) held

-- what both operands of a relation come to, if it is one
abbrev pub AreOutcomesIn : Context → Option Related → Option Operands → Type 0
AreOutcomesIn c None o = o ≡ None
AreOutcomesIn c (Some r) None = ⊥
AreOutcomesIn c (Some r) (Some o) = AreOperandsBy (HasOutcome c) r o
