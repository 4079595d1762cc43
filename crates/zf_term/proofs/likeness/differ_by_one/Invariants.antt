-- The names are the same up to the place.
use Rattle.std.proofs.Common.{◌≡◌, drop}
use Rattle.zf_term.specs.{differ_by_one}
use Rattle.zf_term.proofs.likeness.differ_by_one.Given as goal

abbrev pub invariant-loop-place : goal.invariant-loop-place
invariant-loop-place l = differ_by_one l.name l.other ≡ differ_by_one (drop l.place l.name) (drop l.place l.other)
