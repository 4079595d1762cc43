use Rattle.zf_graph.proofs.OneSearch.{one_search}
use Rattle.zf_reach.proofs.laws.one_search.Goals as goal

pub returns : goal.returns
returns g c = λ m limit. one_search _ _ _ _ limit (g.met.M.Machine.sure m) (g.met.M.Machine.decisive m)
