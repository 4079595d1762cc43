use Rattle.zf_families.proofs.Prelude.{◌↔◌, drop, AreFrom}
use Rattle.zf_families.proofs.cross.are_from.Given as goal

abbrev pub invariant-loop-place : goal.invariant-loop-place
invariant-loop-place l = AreFrom l.parts l.sets ↔ AreFrom (drop l.place l.parts) (drop l.place l.sets)
