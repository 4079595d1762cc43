use Rattle.std.proofs.Common.{◌≡◌, ◌++◌, take}
use Rattle.zf_data.specs.{all_of}
use Rattle.zf_data.proofs.arena.chunked.Chunked.append.Given as goal

abbrev pub invariant-loop-chunk : goal.invariant-loop-chunk
invariant-loop-chunk g l = l.self ≡ l.initial.self ++ all_of (take l.chunk-index l.chunk-items)
