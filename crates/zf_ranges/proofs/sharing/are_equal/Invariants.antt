use Rattle.zf_ranges.proofs.Prelude.{◌≡◌, take}
use Rattle.zf_ranges.proofs.sharing.are_equal.Given as goal

abbrev pub invariant-loop-place : goal.invariant-loop-place
invariant-loop-place l = take l.place l.left ≡ take l.place l.right
