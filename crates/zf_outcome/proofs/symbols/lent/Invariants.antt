use Rattle.std.proofs.Common.{◌≡◌, take}
use Rattle.zf_outcome.proofs.symbols.lent.Given as goal

abbrev pub invariant-loop-value : goal.invariant-loop-value
invariant-loop-value l = l.sets.items ≡ take l.value-index l.values
