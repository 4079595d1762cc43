-- What is claimed of trees, over leaves that have one truth each and keep it.
use Rattle.std.specs.Prelude.{List}
use Rattle.zf_plan.specs.Prelude.{Conjuncts, HaveOneTruth, KeepTruths}
use Rattle.zf_plan.specs.Trees.{Tree, HaveLeavesWithin, planted}

-- No tree has two truths on a row.
abbrev pub TreesHaveOneTruth : {V : Type 0} → Conjuncts V → Type 0
TreesHaveOneTruth l = (trees : List Tree) → HaveLeavesWithin l.number trees → HaveOneTruth (planted l trees)

-- The truth of a tree on what it needs is its truth on every longer row.
abbrev pub TreesKeepTruths : {V : Type 0} → Conjuncts V → Type 0
TreesKeepTruths l = (trees : List Tree) → HaveLeavesWithin l.number trees → KeepTruths (planted l trees)
