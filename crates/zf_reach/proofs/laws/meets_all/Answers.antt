use Rattle.zf_graph.proofs.Meeting.{has_each_step, meets_once, meets_reachable, meets_shortly}
use Rattle.zf_reach.proofs.laws.meets_all.Goals as goal

pub returns-clause-reachable : goal.returns-clause-reachable
returns-clause-reachable g c = λ m. meets_reachable _ _ (g.met.M.Machine.of_graph m)

pub returns-clause-once : goal.returns-clause-once
returns-clause-once g c = λ m. meets_once _ _ (g.met.M.Machine.of_graph m)

pub returns-clause-shortly : goal.returns-clause-shortly
returns-clause-shortly g c = λ m. meets_shortly _ _ (g.met.M.Machine.of_graph m)

pub returns-clause-steps : goal.returns-clause-steps
returns-clause-steps g c = λ m. has_each_step _ _ (g.met.M.Machine.of_graph m)
