use Rattle.zf_shape.proofs.Prelude.{◌+◌, ◌-◌, ◌∙◌, ap, arith, conjunct_of, height, length, List, map, refl, resolved_of, subst, sym, true≢false, Batch, Conjunct, AreLow, anywhere}
use Rattle.zf_shape.proofs.Conjuncts.{first_told, height_member, height_sides, height_term, joined_told, lower_told, none_low_enough, same_height_told, second_told}
use Rattle.zf_shape.proofs.Heights.{some_height}
use Rattle.zf_shape.proofs.Joined.{all_in, as_high, batch_low_at, batch_low_more, count_more, low_at, low_more}
use Rattle.zf_shape.proofs.conjunct.+within.Goals as goal

pub are_within-returns-then-not-is_within : goal.are_within-returns-then-not-is_within
are_within-returns-then-not-is_within t c = (
  λ b. absurd (true≢false (sym b)),
  λ h. absurd (true≢false (sym (c.is_within.ensures.1 (omega (
    arith,
    c.loop-conjunct.invariant.counted,
    c.min.ensures,
    c.in-Some.ensures,
    low_at c.args.highest c.args.deepest c.args.count c.as_slice-conjunct-items.result.now c.loop-conjunct.conjunct-index c.conjunct-item.result
        c.conjunct-item.is c.loop-conjunct-test.true (subst (λ (xs : List Conjunct). AreLow c.args.highest c.args.deepest c.args.count (map conjunct_of xs))
        (sym c.as_slice-conjunct-items.ensures) h),
  ))) ∙ c.if-not-is_within.true)),
)

pub are_within-returns-in_default : goal.are_within-returns-in_default
are_within-returns-in_default t c = (
  λ b. absurd (true≢false (sym b)),
  λ h. absurd (omega (
    arith,
    c.loop-conjunct.invariant.counted,
    c.min.ensures,
    c.in_default.ensures,
    low_at c.args.highest c.args.deepest c.args.count c.as_slice-conjunct-items.result.now c.loop-conjunct.conjunct-index c.conjunct-item.result
        c.conjunct-item.is c.loop-conjunct-test.true (subst (λ (xs : List Conjunct). AreLow c.args.highest c.args.deepest c.args.count (map conjunct_of xs))
        (sym c.as_slice-conjunct-items.ensures) h),
  )),
)

pub are_within-loop-conjunct-preserved : goal.are_within-loop-conjunct-preserved
are_within-loop-conjunct-preserved t c = record {
  counted = omega (arith, c.loop-conjunct.invariant.counted, c.saturating_sub-ahead.ensures);
  low = low_more c.args.highest c.args.deepest c.args.count c.as_slice-conjunct-items.result.now c.loop-conjunct.conjunct-index c.conjunct-item.result
      c.conjunct-item.is c.loop-conjunct-test.true c.loop-conjunct.invariant.low
      (omega (arith, c.loop-conjunct.invariant.counted, c.min.ensures, c.in-Some.ensures, c.is_within.ensures.0 c.if-not-is_within.false));
}

pub are_batches_within-returns-then-not-are_within : goal.are_batches_within-returns-then-not-are_within
are_batches_within-returns-then-not-are_within t c = (
  λ b. absurd (true≢false (sym b)),
  λ h. absurd (true≢false (sym (c.are_within.ensures.1 (subst (λ (cs : List Conjunct). AreLow c.args.highest c.args.deepest c.loop-batch.ahead
      (map conjunct_of cs)) (sym c.get.ensures) (batch_low_at c.args.highest c.args.deepest c.args.count c.loop-batch.ahead c.as_slice-batch-items.result.now
      c.loop-batch.batch-index c.batch-item.result c.batch-item.is c.loop-batch-test.true c.loop-batch.invariant.counted
      (subst (λ (bs : List Batch). AreLow c.args.highest c.args.deepest c.args.count (all_in bs)) (sym c.as_slice-batch-items.ensures) h))))
      ∙ c.if-not-are_within.true)),
)

pub are_batches_within-loop-batch-preserved : goal.are_batches_within-loop-batch-preserved
are_batches_within-loop-batch-preserved t c = record {
  counted = omega (
    arith,
    c.loop-batch.invariant.counted,
    c.saturating_sub-ahead.ensures,
    c.len.ensures,
    ap length c.get-in-loop-batch.ensures,
    count_more _ _ _ c.batch-item.is c.loop-batch-test.true,
  );
  low = batch_low_more c.args.highest c.args.deepest c.args.count c.loop-batch.ahead c.as_slice-batch-items.result.now c.loop-batch.batch-index
      c.batch-item.result c.batch-item.is c.loop-batch-test.true c.loop-batch.invariant.counted c.loop-batch.invariant.low
      (subst (λ (cs : List Conjunct). AreLow c.args.highest c.args.deepest c.loop-batch.ahead (map conjunct_of cs)) c.get.ensures
      (c.are_within.ensures.0 c.if-not-are_within.false));
}

pub is_joined_within-returns-in_default : goal.is_joined_within-returns-in_default
is_joined_within-returns-in_default t c = none_low_enough _ _ (omega (arith, c.in_default.ensures, as_high anywhere (all_in c.args.batches.now)))

pub is_joined_within-returns : goal.is_joined_within-returns
is_joined_within-returns t c = joined_told _ c.args.highest (c.args.highest - c.in-Some.beside) (all_in c.args.batches.now) (omega (arith, c.in-Some.ensures))
    (omega (arith, c.in-Some.ensures, c.if-count-eq0.false)) c.are_batches_within.ensures

pub is_within-returns-in-Term : goal.is_within-returns-in-Term
is_within-returns-in-Term t c = same_height_told _ _ _ _ (height_term _ _ _ c.in-Term.is ∙ ap (λ u. height (resolved_of u)) (sym c.get.ensures)) c.is_within.ensures

pub is_within-returns-in-None : goal.is_within-returns-in-None
is_within-returns-in-None t c = none_low_enough _ _ (omega (arith, c.in-None.ensures, some_height (conjunct_of c.args.conjunct.now)))

pub is_within-returns-in-Some : goal.is_within-returns-in-Some
is_within-returns-in-Some t c = lower_told _ _ _ _ _ (height_member _ _ _ _ c.in-Member.is ∙ ap (λ u. height (resolved_of u) + 1) (sym c.get-in-Some.ensures))
    c.in-Some.ensures c.is_within-in-Some.ensures

pub is_within-returns-in-None-checked_sub : goal.is_within-returns-in-None-checked_sub
is_within-returns-in-None-checked_sub t c = none_low_enough _ _ (omega (arith, c.in-None-checked_sub.ensures, some_height (conjunct_of c.args.conjunct.now)))

pub is_within-returns-then-is_joined_within : goal.is_within-returns-then-is_joined_within
is_within-returns-then-is_joined_within t c =
    second_told c.is_joined_within.result _ _ _ _ _ _ (height_sides _ _ _ _ _ _ _ c.in-Either.is c.get-in-Some-checked_sub.ensures
    c.get-then-is_joined_within.ensures) c.in-Some-checked_sub.ensures c.is_joined_within.ensures c.if-is_joined_within.true
    c.is_joined_within-then-is_joined_within.ensures

pub is_within-returns-else-is_joined_within : goal.is_within-returns-else-is_joined_within
is_within-returns-else-is_joined_within t c =
    first_told c.is_joined_within.result _ _ _ _ _ (height_sides _ _ _ _ c.in-Either.right _ _ c.in-Either.is c.get-in-Some-checked_sub.ensures refl)
    c.in-Some-checked_sub.ensures c.is_joined_within.ensures c.if-is_joined_within.false
