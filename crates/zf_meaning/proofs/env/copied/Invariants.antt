use Rattle.std.proofs.Common.{◌≡◌, take}
use Rattle.zf_meaning.proofs.env.copied.Given as goal

abbrev pub invariant-loop-outcome : goal.invariant-loop-outcome
invariant-loop-outcome l = l.out.items ≡ take l.outcome-index l.outcomes
