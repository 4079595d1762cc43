use Rattle.zf_graph.proofs.Fronts.{parts_are_fronts}
use Rattle.zf_graph.proofs.OneWay.{one_way}
use Rattle.zf_reach.proofs.laws.one_text.Goals as goal

pub returns-clause-one : goal.returns-clause-one
returns-clause-one g c = λ m limit. one_way _ _ limit (g.met.M.Machine.sure m)

pub returns-clause-fronts : goal.returns-clause-fronts
returns-clause-fronts g c = λ m limit. parts_are_fronts _ _ limit (g.met.M.Machine.sure m)
