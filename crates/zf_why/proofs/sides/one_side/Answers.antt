use Rattle.zf_why.proofs.Prelude.{◌++◌, ◌∙◌, ap, List, map, sym, batch-seen, Conjunct, conjunct_of, moved, numbering, ResolvedTree}
use Rattle.zf_why.proofs.Gathered.{one_batch}
use Rattle.zf_why.proofs.sides.one_side.Goals as goal

pub loop-batch-preserved : goal.loop-batch-preserved
loop-batch-preserved c =
    let b = c.batch-item.result in
    let own = ap (λ (cs : List Conjunct). map (moved (numbering b.places)) (map conjunct_of cs)) (c.as_slice.ensures ∙ c.get.ensures) ∙ sym (batch-seen b) in
    one_batch c.args.batches.now c.loop-batch.batch-index b _ _ _ c.batch-item.is c.loop-batch-test.true
    (c.in_ok-push_moved.ensures ∙ ap (λ (ts : List ResolvedTree). map conjunct_of c.loop-batch.conjuncts ++ ts) own) c.loop-batch.invariant
