use Rattle.std.proofs.Common.{arith}
use Rattle.zf_calculus.proofs.Renumbering.{all_places}
use Rattle.zf_calculus.proofs.components.new_places.Goals as goal

pub returns-clause-places : goal.returns-clause-places
returns-clause-places c = all_places c.loop-place.places c.args.components.now c.args.among.now (omega arith) c.loop-place.invariant.places
