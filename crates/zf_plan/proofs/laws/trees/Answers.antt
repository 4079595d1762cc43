use Rattle.zf_plan.proofs.TreeTruths.{planted-one, planted-kept}
use Rattle.zf_plan.proofs.laws.trees.Goals as goal

pub returns : goal.returns
returns g c = record {
  one_truth = λ j. planted-one (g.J.Judge.conjuncts j) (g.met.J.Judge.one_truth j);
  kept = λ j. planted-kept (g.J.Judge.conjuncts j) (g.met.J.Judge.kept j);
}
