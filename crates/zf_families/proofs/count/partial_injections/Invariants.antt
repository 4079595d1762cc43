use Rattle.std.proofs.Common.{◌≡◌, length}
use Rattle.zf_families.proofs.CutCounts.{AreCutCounts}
use Rattle.zf_families.proofs.count.partial_injections.Given as goal

abbrev pub invariant-loop-turn : goal.invariant-loop-turn
invariant-loop-turn l = (length l.reached ≡ 18) × AreCutCounts l._turn l.to l.reached
