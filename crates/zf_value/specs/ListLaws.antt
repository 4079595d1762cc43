-- Rows of values, and lists with the same members: no public clause of `run` rests on these.
use Rattle.std.specs.Prelude.{◌↔◌, List}
use Rattle.std.specs.declared.cmp.Ordering.{Ordering}
use Rattle.std.specs.Cmp.Lexicographic.{slice_cmp}
use Rattle.zf_value.specs.declared.plain.Value.{Value}
use Rattle.zf_value.specs.Lists.{value_order, IsMember}

-- rows of values go lexicographically
abbrev pub row_order : List Value → List Value → Ordering
row_order = slice_cmp value_order

unfoldable pub HaveSameMembers : List Value → List Value → Type 0
HaveSameMembers xs ys = (z : Value) → IsMember z xs ↔ IsMember z ys
