-- How a row of a part is seen: for its model alone. No public clause rests on this file.
use Rattle.std.specs.Prelude.{ℕ, List}
use Rattle.zf_parts.specs.Prelude.{Value}

-- the ranges of its values, and the places of these
pub record PartView : Type 0 where
  pub ranges : List (List Value)
  pub digits : List ℕ
