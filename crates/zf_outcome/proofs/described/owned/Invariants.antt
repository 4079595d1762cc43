use Rattle.std.proofs.Common.{◌≡◌, ◌++◌}
use Rattle.zf_outcome.proofs.described.owned.Given as goal

abbrev pub invariant-loop-value : goal.invariant-loop-value
invariant-loop-value l = l.sets.items ++ l.value-iterator.rest.items ≡ l.fn.values.items
