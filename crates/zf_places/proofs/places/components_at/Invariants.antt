-- The components at the places so far.
use Rattle.std.proofs.Common.{◌≡◌, filter_map, map, slice_get, take}
use Rattle.zf_term.specs.{comp_of}
use Rattle.zf_places.proofs.places.components_at.Given as goal

abbrev pub invariant-loop-place : goal.invariant-loop-place
invariant-loop-place l = map comp_of l.found ≡ filter_map (slice_get (map comp_of l.components)) (take l.place-index l.places)
