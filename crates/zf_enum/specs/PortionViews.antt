-- Portions as the program and the laws make them.
use Rattle.std.specs.Prelude.{List, Option, Some}
use Rattle.zf_enum.specs.Prelude.{Value}
use Rattle.zf_enum.specs.Portions.{Portion}

abbrev pub portion : Option (List Value) → List (Option Value) → Portion
portion after held = record { after = after; held = held }

-- of them those that come after this row
abbrev pub behind : List Value → Portion → Portion
behind row p = record { after = Some row; held = p.held }
