use Rattle.std.proofs.Common.{◌≡◌, ◌++◌}
use Rattle.zf_data.proofs.arena.chunked.Chunked.flat.Given as goal

abbrev pub invariant-loop-item : goal.invariant-loop-item
invariant-loop-item g l = l.items ++ l.item-iterator ≡ l.initial.item-iterator
