use Rattle.std.proofs.Common.{◌≡◌, ◌++◌, take}
use Rattle.zf_data.proofs.arena.chunked.Chunked.append_items.Given as goal

abbrev pub invariant-loop-item : goal.invariant-loop-item
invariant-loop-item g l = l.self ≡ l.initial.self ++ take l.item-index l.items
