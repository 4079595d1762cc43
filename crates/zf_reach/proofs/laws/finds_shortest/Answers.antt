use Rattle.zf_graph.proofs.Meeting.{finds_shortest}
use Rattle.zf_reach.proofs.laws.finds_shortest.Goals as goal

pub returns : goal.returns
returns g c = λ m test. finds_shortest _ _ (g.met.M.Machine.of_graph m) _
