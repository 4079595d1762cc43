use Rattle.zf_steps.proofs.Sure.{is_of, is_sure}
use Rattle.zf_steps.proofs.laws.one_exploration.Goals as goal

pub returns-clause-graph : goal.returns-clause-graph
returns-clause-graph c = is_of

pub returns-clause-sure : goal.returns-clause-sure
returns-clause-sure c = is_sure
