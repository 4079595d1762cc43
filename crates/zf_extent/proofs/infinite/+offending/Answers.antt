use Rattle.std.proofs.Common.{◌+◌, ◌∙◌}
use Rattle.zf_extent.proofs.FirstOffenders.{terms_step, ranges_step, links_step, ends_at, first_of_comprehension}
use Rattle.zf_extent.proofs.infinite.+offending.Goals as goal

pub offending-returns-in-Comprehension : goal.offending-returns-in-Comprehension
offending-returns-in-Comprehension t c =
    first_of_comprehension _ _ _ _ _ _ _ _ _ c.in-Comprehension.is c.ranges_offending-found.ensures c.part_after.ensures c.part_after-in-Comprehension.ensures

pub terms_offending-loop-term-preserved : goal.terms_offending-loop-term-preserved
terms_offending-loop-term-preserved t c = terms_step _ _ _ _ _ _ _ c.term-item.is c.loop-term-test.true c.loop-term.invariant c.offending_after-offender.ensures

pub ranges_offending-loop-range-preserved : goal.ranges_offending-loop-range-preserved
ranges_offending-loop-range-preserved t c = ranges_step _ _ _ _ _ _ _ c.range-item.is c.loop-range-test.true c.loop-range.invariant c.offending_after-offender.ensures

pub links_after-loop-place-preserved : goal.links_after-loop-place-preserved
links_after-loop-place-preserved t c = links_step _ _ _ _ _ _ _ _ c.index-all-place.is c.loop-place-test.true
    (c.is_empty-is_last.ensures ∙ ends_at c.as_slice-all.result.now (c.loop-place.place + 1)) c.loop-place.invariant c.right_after-offender.ensures
