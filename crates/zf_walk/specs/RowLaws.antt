-- What a walk asks of the order of values, of ranges and of the named row.
use Rattle.std.specs.Prelude.{◌≡◌, ℕ, List, length, Option, Some, None, All, AllPairs}
use Rattle.std.specs.declared.cmp.Ordering.{Ordering}
use Rattle.std.specs.declared.cmp.Ordering.TheVariants.{Less, Equal}

-- values that tie are one
abbrev pub TiesAreEqual : {V : Type 0} → (V → V → Ordering) → Type 0
TiesAreEqual {V} cmp = (v w : V) → cmp v w ≡ Equal → v ≡ w

-- each range is strictly ascending
abbrev pub AreAscending : {V : Type 0} → (V → V → Ordering) → List (List V) → Type 0
AreAscending cmp ranges = All (AllPairs (λ v w. cmp v w ≡ Less)) ranges

-- the named row, if there is one, has so many values
abbrev pub HasLength : {V : Type 0} → Option (List V) → ℕ → Type 0
HasLength None n = Unit {0}
HasLength (Some named) n = length named ≡ n
