use Rattle.zf_term.specs.{globals_of}
use Rattle.zf_extent.proofs.JoinedOffences.{batches_step, conjuncts_step, in_either, in_member, in_term}
use Rattle.zf_extent.proofs.conjunct.+conjuncts.Goals as goal

pub offending_after-returns-in-Term : goal.offending_after-returns-in-Term
offending_after-returns-in-Term t c = in_term (globals_of c.args.globals.now) _ _ _ _ _ _ c.in-Term.is c.get.ensures c.offending_after.ensures

pub offending_after-returns-in-Member : goal.offending_after-returns-in-Member
offending_after-returns-in-Member t c = in_member (globals_of c.args.globals.now) _ _ _ _ _ _ _ c.in-Member.is c.get-in-Member.ensures c.offending_within_after.ensures

pub offending_after-returns-in-Either : goal.offending_after-returns-in-Either
offending_after-returns-in-Either t c =
    in_either (globals_of c.args.globals.now) _ _ _ _ _ _ _ _ _ _ c.in-Either.is c.get-in-Either.ensures c.get-in-Either-2.ensures
    c.side_offending_after-offender.ensures c.side_offending_after.ensures

pub side_offending_after-loop-batch-preserved : goal.side_offending_after-loop-batch-preserved
side_offending_after-loop-batch-preserved t c =
    batches_step (globals_of c.args.globals.now) _ _ _ _ _ _ _ c.batch-item.is c.loop-batch-test.true c.get.ensures c.loop-batch.invariant c.all_offending_after-offender.ensures

pub all_offending_after-loop-conjunct-preserved : goal.all_offending_after-loop-conjunct-preserved
all_offending_after-loop-conjunct-preserved t c =
    conjuncts_step (globals_of c.args.globals.now) _ _ _ _ _ _ c.conjunct-item.is c.loop-conjunct-test.true c.loop-conjunct.invariant c.offending_after-offender.ensures
