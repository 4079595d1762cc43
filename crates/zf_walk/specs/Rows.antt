-- Rows of values: their order, and the rows that ranges have.
use Rattle.std.specs.Prelude.{◌≡◌, List, length, take, Option, Contains, IfSome}
use Rattle.std.specs.declared.cmp.Ordering.{Ordering}
use Rattle.std.specs.declared.cmp.Ordering.TheVariants.{Less}
use Rattle.std.specs.Cmp.Lexicographic.{slice_cmp}
use Rattle.std.specs.List.{AllZip}

-- the second row is the greater one, lexicographically
abbrev pub ComesAfter : {V : Type 0} → (V → V → Ordering) → List V → List V → Type 0
ComesAfter cmp named row = slice_cmp cmp named row ≡ Less

-- the row is greater than the named one, if one is named
abbrev pub IsLater : {V : Type 0} → (V → V → Ordering) → Option (List V) → List V → Type 0
IsLater cmp after row = IfSome after (λ named. ComesAfter cmp named row)

-- a value of each range
abbrev pub IsRowOf : {V : Type 0} → List (List V) → List V → Type 0
IsRowOf = AllZip Contains

-- a value of each of the first ranges
abbrev pub IsFrontOf : {V : Type 0} → List (List V) → List V → Type 0
IsFrontOf ranges row = IsRowOf (take (length row) ranges) row
