use Rattle.zf_resolved.proofs.Prelude.{◌≡◌, drop, map, None, all_of, batch_of, onto, tree_in}
use Rattle.zf_resolved.proofs.Joining.{numbered_anew}
use Rattle.zf_resolved.proofs.conjunct.+resolved.Given as goal

abbrev pub invariant-joined-loop-batch : goal.invariant-joined-loop-batch
invariant-joined-loop-batch l = onto (tree_in l.whole) (all_of (map batch_of (drop l.batch-index l.batch-items))) ≡ onto None (all_of (map batch_of l.batches))

abbrev pub invariant-all_joined-loop-conjunct : goal.invariant-all_joined-loop-conjunct
invariant-all_joined-loop-conjunct l = onto (tree_in l.whole) (numbered_anew l.batch (drop l.conjunct-index l.conjunct-items)) ≡ onto (tree_in l.initial.whole) (batch_of l.batch)
