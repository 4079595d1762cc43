use Rattle.std.proofs.Common.{◌≤◌, length}
use Rattle.zf_typing.proofs.Indexed.{IsAhead}
use Rattle.zf_typing.proofs.index.found_along.Given as goal

abbrev pub invariant-loop-ahead : goal.invariant-loop-ahead
invariant-loop-ahead l = record {
  within : l.ahead ≤ length l.chain;
  is : IsAhead l.name l.chain l.ahead;
}

abbrev pub decreases-loop-ahead : goal.decreases-loop-ahead
decreases-loop-ahead l = l.ahead
