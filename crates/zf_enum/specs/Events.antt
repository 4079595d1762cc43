-- The events of a schema in an environment: the bindings that come after the named one, have the values that are held and are not False, each with its truth.
use Rattle.std.specs.Prelude.{ℕ, List, Option}
use Rattle.zf_enum.specs.Prelude.{Schema, Value, value_order, IsNumberOfTests, Environment, AreRanges}
use Rattle.zf_enum.specs.Property.{property}
use Rattle.zf_enum.specs.Portions.{Portion}

-- the number of the tests up to a whole row, or up to the end
pub record AreTests (e : Environment) (s : Schema) (p : Portion) (whole : Option (List Value)) (number : ℕ) : Type 0 where
  pub ranges : List (List Value)
  pub of_components : AreRanges e s.comps p.held ranges
  pub counted : IsNumberOfTests value_order (property e s.conjuncts) ranges p.after whole number
