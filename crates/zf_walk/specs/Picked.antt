-- Rows by the places of their values in ranges: for private contracts and the model of `Walk` alone.
use Rattle.std.specs.Prelude.{ℕ, ◌<◌, ◌≤◌, List, [], ◌∷◌, ◌++◌, length, slice_get, slice_index, slice_index_or}
use Rattle.std.specs.Option.{option_to_list}

-- the values at these places of the first ranges
abbrev pub picked : {V : Type 0} → List (List V) → List ℕ → List V
picked [] places = []
picked (range ∷ ranges) [] = []
picked (range ∷ ranges) (i ∷ places) = option_to_list (slice_get range i) ++ picked ranges places

-- each place is in its range
pub record AreWithin {V : Type 0} (ranges : List (List V)) (places : List ℕ) : Type 0 where
  pub few : length places ≤ length ranges
  pub each : (k : ℕ) → k < length places → slice_index places k < length (slice_index_or ranges k [])
