use Rattle.zf_families.proofs.Prelude.{◌≡◌, drop, seconds_apart}
use Rattle.zf_families.proofs.members.are_seconds_apart.Given as goal

abbrev pub invariant-loop-place : goal.invariant-loop-place
invariant-loop-place l = seconds_apart l.r ≡ seconds_apart (drop l.place l.r)
