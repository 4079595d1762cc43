-- The values so far.
use Rattle.std.proofs.Common.{◌≡◌, take}
use Rattle.zf_places.proofs.places.values_of.Given as goal

abbrev pub invariant-loop-place : goal.invariant-loop-place
invariant-loop-place g l = l.values.items ≡ take l.place (g.R.Row.values l.row)
