-- What always holds of a walk: for the model of `Walk` alone.
use Rattle.std.specs.Prelude.{Bool, IsTrue}
use Rattle.zf_plan.specs.Prelude.{Conjuncts}
use Rattle.zf_plan.specs.Trees.{IsFlat}
use Rattle.zf_plan.specs.Groves.{Grove, trees_of}

-- each conjunct is a leaf, and what is asked for counts as a test
pub record IsWalk {V : Type 0} (l : Conjuncts V) (forest : Grove) (counting : Bool) : Type 0 where
  pub flat : IsFlat l.number (trees_of forest)
  pub counts : IsTrue counting
