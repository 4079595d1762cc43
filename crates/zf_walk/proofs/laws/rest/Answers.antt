use Rattle.zf_walk.proofs.LawProofs.{starts_with_all, takes_first, ends_with_none}
use Rattle.zf_walk.proofs.laws.rest.Goals as goal

pub returns : goal.returns
returns g c = record {
  starts = λ j. starts_with_all g.V.Ord.cmp g.met.V.Ord.total (g.J.Judge.conjuncts j);
  takes = λ j. takes_first g.V.Ord.cmp g.met.V.Ord.total (g.J.Judge.conjuncts j);
  ends = λ j. ends_with_none g.V.Ord.cmp g.met.V.Ord.total (g.J.Judge.conjuncts j);
}
