use Rattle.zf_walk.proofs.LawProofs.{one_list}
use Rattle.zf_walk.proofs.laws.one_list.Goals as goal

pub returns : goal.returns
returns g c = λ j. one_list g.V.Ord.cmp g.met.V.Ord.total (g.J.Judge.conjuncts j)
