use Rattle.std.proofs.Common.{arith}
use Rattle.zf_calculus.proofs.Renumbering.{none_moved}
use Rattle.zf_calculus.proofs.growing.are_own.Goals as goal

pub returns : goal.returns
returns c h = none_moved c.args.places.now c.loop-place.place (omega arith) c.loop-place.invariant
