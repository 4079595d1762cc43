use Rattle.zf_constraints.proofs.Prelude.{◌++◌, ◌≡◌, all_of, batch_of, conjunct_of, map, moved, numbering, take}
use Rattle.zf_constraints.proofs.batches.push_batches.Given as goal

abbrev pub invariant-loop-piece : goal.invariant-loop-piece
invariant-loop-piece l = all_of (map batch_of l.batches) ≡ all_of (map batch_of l.initial.batches) ++ map (moved (numbering l.places)) (map conjunct_of (all_of (take l.piece-index l.pieces)))
