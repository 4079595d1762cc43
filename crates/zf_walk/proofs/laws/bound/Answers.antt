use Rattle.zf_walk.proofs.LawProofs.{stays_within_bound}
use Rattle.zf_walk.proofs.laws.bound.Goals as goal

pub returns : goal.returns
returns g c = λ j. stays_within_bound g.V.Ord.cmp g.met.V.Ord.total (g.J.Judge.conjuncts j)
