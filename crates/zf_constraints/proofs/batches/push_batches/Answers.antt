use Rattle.zf_constraints.proofs.Prelude.{all_of, batch_of, map}
use Rattle.zf_constraints.proofs.Memberships.{pieces_step}
use Rattle.zf_constraints.proofs.batches.push_batches.Goals as goal

pub loop-piece-preserved : goal.loop-piece-preserved
loop-piece-preserved c =
    pieces_step c.args.places.now c.args.pieces.now c.loop-piece.piece-index c.piece-item.result c.in_ok-share.field-0
    (all_of (map batch_of c.args.batches.now)) (all_of (map batch_of c.loop-piece.batches))
    (all_of (map batch_of c.push_batch.new.batches)) c.piece-item.is c.loop-piece-test.true c.in_ok-share.ensures c.loop-piece.invariant
    c.in_ok-push_batch.ensures
