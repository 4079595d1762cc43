use Rattle.zf_shape.proofs.Prelude.{◌-◌, ◌≡◌, length, map, take, conjunct_of, AreLow}
use Rattle.zf_shape.proofs.Joined.{all_in}
use Rattle.zf_shape.proofs.conjunct.+within.Given as goal

abbrev pub invariant-are_batches_within-loop-batch : goal.invariant-are_batches_within-loop-batch
invariant-are_batches_within-loop-batch l = record {
  counted : l.ahead ≡ l.count - length (all_in (take l.batch-index l.batch-items));
  low : AreLow l.highest l.deepest l.count (all_in (take l.batch-index l.batch-items));
}

abbrev pub invariant-are_within-loop-conjunct : goal.invariant-are_within-loop-conjunct
invariant-are_within-loop-conjunct l = record {
  counted : l.ahead ≡ l.count - l.conjunct-index;
  low : AreLow l.highest l.deepest l.count (map conjunct_of (take l.conjunct-index l.conjunct-items));
}
