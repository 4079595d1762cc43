-- Where a walk over rows is. No public clause rests on this.
use Rattle.std.specs.Prelude.{◌≡◌, ◌⊎◌, ◌<◌, ◌≤◌, ℕ, List, ◌∷◌, ◌++◌, take, Some, slice_get}
use Rattle.zf_meaning.specs.Prelude.{Value}
use Rattle.zf_meaning.specs.declared.rows.Passing.{Passing}
use Rattle.zf_meaning.specs.declared.rows.Passing.TheVariants.{Front, Others}
use Rattle.zf_meaning.specs.declared.rows.Rows.{Rows}
use Rattle.zf_meaning.specs.Places.{seen, all_rows, rows_after, picked, ArePlaces, IsAmong}

abbrev pub lists_of : Rows → List (List Value)
lists_of r = seen r.lists.items

-- the row that it is at
abbrev pub row_of : Rows → List Value
row_of r = picked (lists_of r) r.places.items

-- the rows that are ahead
abbrev pub ahead : Rows → List (List Value)
ahead r = rows_after (lists_of r) r.places.items

-- the row is bound after the variables outside
abbrev pub IsAt : Rows → List Value → Type 0
IsAt r outside = ArePlaces (lists_of r) r.places.items × (seen r.bound.items ≡ outside ++ row_of r)

abbrev pub IsFirst : List Value → List (List Value) → Rows → Type 0
IsFirst outside lists r = IsAt r outside × (lists_of r ≡ lists) × (all_rows lists ≡ row_of r ∷ ahead r)

-- ---- rows that are passed

-- the second row begins with the same values as the first, so many; or with the same before a place, and has there the same or another than is wanted
abbrev pub IsPassed : Passing → List Value → List Value → Type 0
IsPassed (Front front) row vs = take front vs ≡ take front row
IsPassed (Others place wanted) row vs = (take place vs ≡ take place row) × ((slice_get vs place ≡ slice_get row place) ⊎ (slice_get vs place ≡ Some wanted → ⊥))

-- all that are left out of the rows ahead are passed
pub record Skips (passing : Passing) (row : List Value) (rows rest : List (List Value)) : Type 0 where
  pub passed : List (List Value)
  pub first : rows ≡ passed ++ rest
  pub each : (vs : List Value) → IsAmong vs passed → IsPassed passing row vs

abbrev pub IsNext : List Value → Passing → Rows → Rows → Type 0
IsNext outside passing old new = IsAt new outside × (lists_of new ≡ lists_of old) × Skips passing (row_of old) (ahead old) (row_of new ∷ ahead new)

-- the values after the one place up to the other are others than this
abbrev pub AreOthers : List Value → ℕ → ℕ → Value → Type 0
AreOthers xs from to v = (i : ℕ) → from < i → i ≤ to → slice_get xs i ≡ Some v → ⊥
