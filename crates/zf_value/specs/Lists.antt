-- Lists of values, and which ascend.
use Rattle.std.specs.Prelude.{◌≡◌, ◌⊎◌, List, [], ◌∷◌}
use Rattle.std.specs.declared.cmp.Ordering.{Ordering}
use Rattle.std.specs.declared.cmp.Ordering.TheVariants.{Less}
use Rattle.std.specs.List.{AllByRecursion}
use Rattle.zf_value.specs.declared.plain.Value.{Value}
use Rattle.zf_value.specs.contracts.plain.ValueOrd.TheImpl.{ghosts}

abbrev pub value_order : Value → Value → Ordering
value_order = ghosts.cmp

abbrev pub IsMember : Value → List Value → Type 0
IsMember z [] = ⊥
IsMember z (x ∷ xs) = (x ≡ z) ⊎ IsMember z xs

-- strictly ascending
abbrev pub IsAscending : List Value → Type 0
IsAscending [] = Unit {0}
IsAscending (x ∷ xs) = AllByRecursion (λ y. value_order x y ≡ Less) xs × IsAscending xs

-- each is among the others
unfoldable pub AreAmong : List Value → List Value → Type 0
AreAmong xs ys = (z : Value) → IsMember z xs → IsMember z ys
