-- What stands at places of a row or of a schema.
use Rattle.std.specs.Prelude.{◌≡◌, ℕ, ◌<◌, List, length, slice_get, slice_index}
use Rattle.std.specs.List.{filter_map}
use Rattle.zf_term.specs.{Comp}
use Rattle.zf_value.specs.declared.plain.Value.{Value}

-- the values at these places
abbrev pub values_at : (places : List ℕ) → List Value → List Value
values_at places row = filter_map (slice_get row) places

-- the components at these places
abbrev pub comps_at : List Comp → (places : List ℕ) → List Comp
comps_at comps places = filter_map (slice_get comps) places

-- they are the first places, in their order
abbrev pub AreFirst : (places : List ℕ) → Type 0
AreFirst places = (i : ℕ) → i < length places → slice_index places i ≡ i
