use Rattle.zf_constraints.proofs.Prelude.{on_ok_weaker}
use Rattle.zf_constraints.proofs.Memberships.{batch_pushed}
use Rattle.zf_constraints.proofs.batches.push_batch.Goals as goal

pub returns : goal.returns
returns c = on_ok_weaker c.push.result (batch_pushed c.args.places.now c.args.conjuncts c.of.result c.args.batches.now c.push.new.self c.of.ensures) c.push.ensures.ok
