use Rattle.zf_reach.proofs.Prelude.{◌≤◌, length, IsChain}
use Rattle.zf_reach.proofs.trail.way_back.Given as goal

abbrev pub invariant-back : goal.invariant-back
invariant-back g l = IsChain l.trail (length l.trail) l.way.items l.at × (l.at ≤ length l.trail)

abbrev pub decreases-back : goal.decreases-back
decreases-back g l = l.at
