use Rattle.std.proofs.Common.{◌≡◌, ◌≤◌, length, ◌+◌, ◌-◌, drop}
use Rattle.zf_scan.specs.Steps as steps
use Rattle.zf_scan.proofs.pieces.run_len.Given as goal

abbrev pub invariant-loop-run : goal.invariant-loop-run
invariant-loop-run l = (l.n + steps.run_len l.run (drop l.n l.bytes) ≡ steps.run_len l.run l.bytes) × (l.n ≤ length l.bytes)

abbrev pub decreases-loop-run : goal.decreases-loop-run
decreases-loop-run l = length l.bytes - l.n
