-- The order of rows, value by value: for private contracts and the model of the search alone.
use Rattle.std.specs.Prelude.{ℕ, Bool, true, false, nat_lt, List, [], ◌∷◌, length, take, Option, Some, None}
use Rattle.std.specs.declared.cmp.Ordering.{Ordering}
use Rattle.std.specs.declared.cmp.Ordering.TheVariants.{Less, Equal, Greater}

-- what a comparison decides, and the rest where it ties
abbrev pub first_of : Ordering → Bool → Bool
first_of Less rest = true
first_of Equal rest = rest
first_of Greater rest = false

-- whether a row is greater than all that begin with the path, or, where `here`, begins with it
abbrev pub reaches : {V : Type 0} → (V → V → Ordering) → Bool → List V → List V → Bool
reaches cmp here [] row = here
reaches cmp here (x ∷ path) [] = false
reaches cmp here (x ∷ path) (v ∷ row) = first_of (cmp x v) (reaches cmp here path row)

-- whether a row of the first ranges is not less than as many first values of the named one, or, with all n values, is greater
abbrev pub is_reached : {V : Type 0} → (V → V → Ordering) → Option (List V) → ℕ → List V → Bool
is_reached cmp None n row = true
is_reached cmp (Some named) n row = reaches cmp (nat_lt (length row) n) (take (length row) named) row

-- a test of what is left of a row under a path
abbrev pub under : {V : Type 0} → (V → V → Ordering) → List V → (List V → Bool) → List V → Bool
under cmp [] test row = test row
under cmp (x ∷ path) test [] = false
under cmp (x ∷ path) test (v ∷ row) = first_of (cmp x v) (under cmp path test row)
