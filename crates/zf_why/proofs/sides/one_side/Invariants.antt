use Rattle.zf_why.proofs.Prelude.{◌++◌, ◌≡◌, drop, map, conjunct_of}
use Rattle.zf_why.proofs.Gathered.{all_in}
use Rattle.zf_why.proofs.sides.one_side.Given as goal

abbrev pub invariant-loop-batch : goal.invariant-loop-batch
invariant-loop-batch l = map conjunct_of l.conjuncts ++ all_in (drop l.batch-index l.batches) ≡ all_in l.batches
