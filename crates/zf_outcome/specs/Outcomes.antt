-- The outcome of an operation by those of its operands: out where one is out, else undefined where one is, else as the operation says.
use Rattle.std.specs.Prelude.{◌≡◌, ℕ, List, ◌++◌, replicate}
use Rattle.zf_outcome.specs.Prelude.{Value, Outcome}
use Rattle.zf_value.specs.declared.value.Outcome.TheVariants.{Is, Undefined, Out}

abbrev pub OnOne : Outcome → (Value → Outcome → Type 0) → Outcome → Type 0
OnOne Out P o = o ≡ Out
OnOne Undefined P o = o ≡ Undefined
OnOne (Is v) P o = P v o

abbrev pub OnBoth : Outcome → Outcome → (Value → Value → Outcome → Type 0) → Outcome → Type 0
OnBoth (Is v) (Is w) P o = P v w o
OnBoth Out y P o = o ≡ Out
OnBoth x Out P o = o ≡ Out
OnBoth x y P o = o ≡ Undefined

-- several values, unless one is out or undefined
pub data Several : Type 0 where
  values : List Value → Several
  one_undefined : Several
  one_out : Several

-- the same outcome so many times, before the others
abbrev pub repeated : ℕ → Outcome → Several → Several
repeated n (Is v) (values vs) = values (replicate n v ++ vs)
repeated n Out s = one_out
repeated n x one_out = one_out
repeated n x s = one_undefined

abbrev pub one_more : Outcome → Several → Several
one_more = repeated 1

abbrev pub OnSeveral : Several → (List Value → Outcome → Type 0) → Outcome → Type 0
OnSeveral one_out P o = o ≡ Out
OnSeveral one_undefined P o = o ≡ Undefined
OnSeveral (values vs) P o = P vs o
