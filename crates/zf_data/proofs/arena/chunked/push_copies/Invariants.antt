use Rattle.std.proofs.Common.{◌≡◌, ◌++◌, take}
use Rattle.zf_data.proofs.arena.chunked.push_copies.Given as goal

abbrev pub invariant-loop-item : goal.invariant-loop-item
invariant-loop-item g l = l.others ≡ l.initial.others ++ take l.item-index l.items
