use Rattle.std.proofs.Common.{◌≡◌, ◌≤◌, take}
use Rattle.zf_scan.specs.Pieces as spec
use Rattle.zf_scan.proofs.inside.value_of.Given as goal

abbrev pub invariant-loop-b : goal.invariant-loop-b
invariant-loop-b l = (l.n ≡ spec.value (take l.b-index l.digits)) × (l.n ≤ spec.number_max)
