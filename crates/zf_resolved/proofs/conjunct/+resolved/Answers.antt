use Rattle.zf_resolved.proofs.Prelude.{◌∙◌, ap, arith, List, map, Some, sym, all_of, Conjunct, batch_of, resolved_of, batch-seen, onto, tree_in}
use Rattle.zf_resolved.proofs.Joining.{batches_step, conjuncts_step, none_joined, numbered_anew, some_joined}
use Rattle.zf_resolved.proofs.conjunct.+resolved.Goals as goal

pub all_joined-loop-conjunct-init : goal.all_joined-loop-conjunct-init
all_joined-loop-conjunct-init t c =
    let b = c.args.batch.now in
    let o = tree_in c.args.before in
    ap (λ (xs : List Conjunct). onto o (numbered_anew b xs)) (c.as_slice-conjunct-items.ensures ∙ c.get.ensures) ∙ ap (onto o) (sym (batch-seen b))

pub all_joined-loop-conjunct-preserved : goal.all_joined-loop-conjunct-preserved
all_joined-loop-conjunct-preserved t c =
    conjuncts_step c.args.batch.now c.as_slice-conjunct-items.result.now c.loop-conjunct.conjunct-index c.conjunct-item.result c.in_ok-term.term
    c.in_ok-resolved.field-0 _ (tree_in c.loop-conjunct.whole) (Some (resolved_of c.in_ok-both.field-0)) c.conjunct-item.is c.loop-conjunct-test.true
    c.loop-conjunct.invariant c.in_ok-resolved.ensures c.in_ok-term.ensures (ap Some c.in_ok-both.ensures)

pub joined-loop-batch-preserved : goal.joined-loop-batch-preserved
joined-loop-batch-preserved t c =
    batches_step c.as_slice-batch-items.result.now c.loop-batch.batch-index c.batch-item.result _ (tree_in c.loop-batch.whole)
    (tree_in c.in_ok-whole.whole) c.batch-item.is c.loop-batch-test.true c.loop-batch.invariant c.in_ok-whole.ensures

pub joined-returns-in-None : goal.joined-returns-in-None
joined-returns-in-None t c =
    none_joined c.args.span c.as_slice-batch-items.result.now c.loop-batch.batch-index c.loop-batch.whole
    (all_of (map batch_of c.args.batches.now)) c.in-None.is (omega (arith, c.loop-batch-test.false)) c.loop-batch.invariant

pub joined-returns-in-Some : goal.joined-returns-in-Some
joined-returns-in-Some t c =
    some_joined c.args.span c.as_slice-batch-items.result.now c.loop-batch.batch-index c.loop-batch.whole c.in-Some.term
    (all_of (map batch_of c.args.batches.now)) c.in-Some.is (omega (arith, c.loop-batch-test.false)) c.loop-batch.invariant
