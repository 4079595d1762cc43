use Rattle.std.proofs.Common.{◌≡◌, length}
use Rattle.zf_calculus.proofs.Renumbering.{ArePlaces}
use Rattle.zf_calculus.proofs.components.new_places.Given as goal

abbrev pub invariant-loop-place : goal.invariant-loop-place
invariant-loop-place l = record {
  counted : length l.places ≡ l.place;
  places : ArePlaces l.places l.components l.among;
}
