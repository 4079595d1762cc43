use Rattle.zf_plan.proofs.Groves.{made-none}
use Rattle.zf_plan.proofs.forest.Forest.new.Goals as goal

pub returns-clause-made : goal.returns-clause-made
returns-clause-made c = made-none (record { nodes = c.new.result.items; roots = c.new-2.result.items }) c.new.ensures.items
