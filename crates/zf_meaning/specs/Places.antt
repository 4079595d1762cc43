-- The rows of ranges one after another, as a walk by places in the ranges meets them. No public clause rests on this.
use Rattle.std.specs.Prelude.{◌≡◌, ◌⊎◌, ℕ, zero, suc, ◌<◌, List, [], ◌∷◌, ◌++◌, length, map}
use Rattle.zf_meaning.specs.Prelude.{Bor, Value}

-- what references stand for
abbrev pub seen : {A : Type 0} → List (Bor A) → List A
seen xs = map (λ x. x.now) xs

-- the row is among these
abbrev pub IsAmong : List Value → List (List Value) → Type 0
IsAmong vs [] = ⊥
IsAmong vs (ws ∷ rows) = (ws ≡ vs) ⊎ IsAmong vs rows

-- the rows that begin with one of these values and go on with one of these rows
abbrev pub headed : List Value → List (List Value) → List (List Value)
headed [] rows = []
headed (x ∷ xs) rows = map (λ row. x ∷ row) rows ++ headed xs rows

-- the rows that begin with the value at a place and go on with a row of the first kind, and those that begin with a later one
abbrev pub headed_from : List Value → ℕ → List (List Value) → List (List Value) → List (List Value)
headed_from [] place rows others = []
headed_from (x ∷ xs) zero rows others = map (λ row. x ∷ row) rows ++ headed xs others
headed_from (x ∷ xs) (suc place) rows others = headed_from xs place rows others

-- the value at a place, before a row
abbrev pub with_value_at : List Value → ℕ → List Value → List Value
with_value_at [] place row = row
with_value_at (x ∷ xs) zero row = x ∷ row
with_value_at (x ∷ xs) (suc place) row = with_value_at xs place row

-- all rows
unfoldable pub all_rows : List (List Value) → List (List Value)
all_rows [] = [] ∷ []
all_rows (xs ∷ lists) = headed xs (all_rows lists)

-- the rows after all that begin with the values at these places
unfoldable pub rows_after : List (List Value) → List ℕ → List (List Value)
rows_after lists [] = []
rows_after [] (place ∷ path) = []
rows_after (xs ∷ lists) (place ∷ path) = headed_from xs place (rows_after lists path) (all_rows lists)

-- the values at these places
unfoldable pub picked : List (List Value) → List ℕ → List Value
picked lists [] = []
picked [] (place ∷ path) = []
picked (xs ∷ lists) (place ∷ path) = with_value_at xs place (picked lists path)

-- there is a value at each place
unfoldable pub ArePlaces : List (List Value) → List ℕ → Type 0
ArePlaces [] [] = Unit {0}
ArePlaces [] (place ∷ path) = ⊥
ArePlaces (xs ∷ lists) [] = ⊥
ArePlaces (xs ∷ lists) (place ∷ path) = (place < length xs) × ArePlaces lists path
