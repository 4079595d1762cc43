-- Relations between sums, and the values of a component with which they are False. No public clause rests on this.
use Rattle.std.specs.Prelude.{◌≡◌, ℕ, ℤ, ◌-ℤ◌, false, List, ◌∷◌, ◌++◌, Some, Contains, FitsSigned, slice_get}
use Rattle.zf_enum.specs.Prelude.{w32, is_membership, ResolvedTree, Value, Int, Is, IsRowOf, picked, Holds, Environment, HasOutcome, in_row}
use Rattle.zf_tree.specs.declared.symbol.Relation.{Relation}
use Rattle.zf_enum.specs.declared.interval.Interval.{Interval}
use Rattle.zf_enum.specs.Spans.{Spans}

-- on each row of the ranges that goes on from the values at these places with a number of 32 bits, the term comes to a number of the interval
abbrev pub IsIntervalOf : Environment → ResolvedTree → List (List Value) → List ℕ → Interval → Type 0
IsIntervalOf e t ranges places s = (v : ℤ) (more : List Value) → FitsSigned w32 v → IsRowOf ranges (picked ranges places ++ Int v ∷ more)
    → (m : ℤ) × HasOutcome (in_row e (picked ranges places ++ Int v ∷ more)) t (Is (Int m)) × Spans s v m

-- each value of the range is a number of the interval
abbrev pub IsIntervalOver : List Value → Interval → Type 0
IsIntervalOver range s = (w : Value) → Contains range w → (m : ℤ) × (w ≡ Int m) × ((v : ℤ) → Spans s v m)

-- on each row of the ranges that has a number at one place, the value at another is a number of the interval
abbrev pub IsIntervalAhead : List (List Value) → (next place : ℕ) → Interval → Type 0
IsIntervalAhead ranges next place s = (row : List Value) (v : ℤ) → IsRowOf ranges row → slice_get row next ≡ Some (Int v) → (m : ℤ) × (slice_get row place ≡ Some (Int m)) × Spans s v m

-- so it comes to two terms, and the difference of the numbers is of the interval
abbrev pub IsDifferenceOf : Environment → (left right : ResolvedTree) → List (List Value) → List ℕ → Interval → Type 0
IsDifferenceOf e left right ranges places s = (v : ℤ) (more : List Value) → FitsSigned w32 v → IsRowOf ranges (picked ranges places ++ Int v ∷ more)
    → (a b : ℤ) × HasOutcome (in_row e (picked ranges places ++ Int v ∷ more)) left (Is (Int a)) × HasOutcome (in_row e (picked ranges places ++ Int v ∷ more)) right (Is (Int b)) × Spans s v (a -ℤ b)

-- of two numbers the difference of which is of the interval the relation doesn't hold, if the value is this one
abbrev pub IsRuledOut : Relation → Interval → Value → Type 0
IsRuledOut r s v = (n : ℤ) × (is_membership r ≡ false) × (v ≡ Int n) × FitsSigned w32 n × ((a b : ℤ) → Spans s n (a -ℤ b) → Holds r (Int a) (Int b) → ⊥)

-- so it is with each value of a range at none of these places
abbrev pub AreRuledOut : Relation → Interval → List Value → List ℕ → Type 0
AreRuledOut r s range places = (i : ℕ) (v : Value) → slice_get range i ≡ Some v → (Contains places i → ⊥) → IsRuledOut r s v
