use Rattle.std.proofs.Common.{arith}
use Rattle.zf_term.proofs.Places.{both_full}
use Rattle.zf_term.proofs.conjunct.both.Goals as goal

pub returns : goal.returns
returns c = both_full c.loop-place.places c.args.first.now c.args.then.now (omega arith) c.loop-place.invariant.first
