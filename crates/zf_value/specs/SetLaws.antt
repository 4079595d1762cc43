-- What a value holds, and what is claimed of sets.
use Rattle.std.specs.Prelude.{◌≡◌, ◌↔◌, List, []}
use Rattle.std.specs.declared.cmp.Ordering.TheVariants.{Equal}
use Rattle.zf_value.specs.declared.plain.Value.{Value, SetOf, out-Value}
use Rattle.zf_value.specs.declared.plain.Value.TheOpen.{Value-F}
use Rattle.zf_value.specs.Lists.{value_order, IsMember, IsAscending}

-- what a tuple or set holds
abbrev pub parts_at : Value-F Value → List Value
parts_at (Value-F.Tuple xs) = xs
parts_at (Value-F.SetOf xs) = xs
parts_at (Value-F.Int n) = []
parts_at (Value-F.Elem t i) = []

abbrev pub parts : Value → List Value
parts v = parts_at (out-Value v)

-- values that tie are one
abbrev pub TiesAreEqual : Type 0
TiesAreEqual = (v w : Value) → value_order v w ≡ Equal → v ≡ w

-- a set is its members, without order or repeats
abbrev pub MembersTell : Type 0
MembersTell = (xs ys : List Value) → IsAscending xs → IsAscending ys → ((z : Value) → IsMember z xs ↔ IsMember z ys) → SetOf xs ≡ SetOf ys
