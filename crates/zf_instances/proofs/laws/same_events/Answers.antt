use Rattle.zf_instances.proofs.Prelude.{same_events, planted, value_order, property}
use Rattle.zf_instances.proofs.laws.same_events.Goals as goal

pub returns : goal.returns
returns c = λ e f ps leaves trees same ranges after x. same_events value_order (planted (property f leaves) trees) (property e ps) same ranges after x
