-- The values at the places so far.
use Rattle.std.proofs.Common.{◌≡◌, take}
use Rattle.zf_places.specs.{values_at}
use Rattle.zf_places.proofs.places.values_at.Given as goal

abbrev pub invariant-loop-place : goal.invariant-loop-place
invariant-loop-place g l = l.values.items ≡ values_at (take l.place-index l.places) (g.R.Row.values l.row)
