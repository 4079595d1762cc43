use Rattle.std.proofs.Common.{◌≡◌, take}
use Rattle.zf_data.specs.{all_of}
use Rattle.zf_data.proofs.arena.chunked.Chunked.pieces.Given as goal

abbrev pub invariant-loop-chunk : goal.invariant-loop-chunk
invariant-loop-chunk g l = all_of l.pieces ≡ all_of (take l.chunk-index l.chunk-items)
