-- The bindings of a schema that a search is for: those after a row, if one is named, which have the values that are held, by their places.
use Rattle.std.specs.Prelude.{List, Option}
use Rattle.zf_enum.specs.Prelude.{Value}

pub record Portion : Type 0 where
  pub after : Option (List Value)
  pub held : List (Option Value)
