use Rattle.zf_value.specs.{AreFrom}
use Rattle.zf_families.proofs.Tested.{never}
use Rattle.zf_families.proofs.Tuples.{as_many}
use Rattle.zf_families.proofs.cross.are_from.Goals as goal

pub returns-then-parts-sets : goal.returns-then-parts-sets
returns-then-parts-sets c = never (AreFrom c.args.parts.now c.args.sets.now) (λ f. c.if-parts-sets.true (as_many c.args.parts.now c.args.sets.now f))
