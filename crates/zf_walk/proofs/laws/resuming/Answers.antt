use Rattle.zf_walk.proofs.LawProofs.{resumes}
use Rattle.zf_walk.proofs.laws.resuming.Goals as goal

pub returns : goal.returns
returns g c = λ j. resumes g.V.Ord.cmp g.met.V.Ord.total (g.J.Judge.conjuncts j)
