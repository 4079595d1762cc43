use Rattle.std.proofs.Common.{refl, sym, ◌∙◌, true≢false}
use Rattle.zf_shape.proofs.Heights.{term_within, link_within, range_within, terms_more, links_more, ranges_more, first_too_high, last_decides, is_comprehension, is_quantified}
use Rattle.zf_shape.proofs.terms.+within.Goals as goal

pub are_terms_within-returns-then-not-is_within : goal.are_terms_within-returns-then-not-is_within
are_terms_within-returns-then-not-is_within t c = (
  λ b. absurd (true≢false (sym b)),
  λ e. absurd (true≢false (sym (c.is_within.ensures.1 (term_within _ _ _ _ _ c.as_slice-term-items.ensures c.term-item.is c.loop-term-test.true e)) ∙ c.if-not-is_within.true)),
)

pub are_links_within-returns-then-not-is_within : goal.are_links_within-returns-then-not-is_within
are_links_within-returns-then-not-is_within t c = (
  λ b. absurd (true≢false (sym b)),
  λ e. absurd (true≢false (sym (c.is_within.ensures.1 (link_within _ _ _ _ _ c.as_slice-link-items.ensures c.link-item.is c.loop-link-test.true e)) ∙ c.if-not-is_within.true)),
)

pub are_ranges_within-returns-then-not-is_within : goal.are_ranges_within-returns-then-not-is_within
are_ranges_within-returns-then-not-is_within t c = (
  λ b. absurd (true≢false (sym b)),
  λ e. absurd (true≢false (sym (c.is_within.ensures.1 (range_within _ _ _ _ _ c.as_slice-range-items.ensures c.range-item.is c.loop-range-test.true e)) ∙ c.if-not-is_within.true)),
)

pub are_terms_within-loop-term-preserved : goal.are_terms_within-loop-term-preserved
are_terms_within-loop-term-preserved t c = terms_more _ _ _ _ c.term-item.is c.loop-term-test.true c.loop-term.invariant (c.is_within.ensures.0 c.if-not-is_within.false)

pub are_links_within-loop-link-preserved : goal.are_links_within-loop-link-preserved
are_links_within-loop-link-preserved t c = links_more _ _ _ _ c.link-item.is c.loop-link-test.true c.loop-link.invariant (c.is_within.ensures.0 c.if-not-is_within.false)

pub are_ranges_within-loop-range-preserved : goal.are_ranges_within-loop-range-preserved
are_ranges_within-loop-range-preserved t c = ranges_more _ _ _ _ c.range-item.is c.loop-range-test.true c.loop-range.invariant (c.is_within.ensures.0 c.if-not-is_within.false)

pub is_within-returns-then-not-are_ranges_within : goal.is_within-returns-then-not-are_ranges_within
is_within-returns-then-not-are_ranges_within t c =
    first_too_high _ _ _ _ _ _ _ (is_comprehension _ _ _ _ _ c.in-Comprehension.is) c.in-Some.ensures c.are_ranges_within.ensures c.if-not-are_ranges_within.true

pub is_within-returns-then-is_part_within : goal.is_within-returns-then-is_part_within
is_within-returns-then-is_part_within t c =
    last_decides _ _ _ _ _ _ _ _ _ (is_comprehension _ _ _ _ _ c.in-Comprehension.is) c.in-Some.ensures c.are_ranges_within.ensures c.if-not-are_ranges_within.false
    c.is_part_within.ensures c.if-is_part_within.true c.is_part_within-then-is_part_within.ensures

pub is_within-returns-then-not-are_ranges_within-2 : goal.is_within-returns-then-not-are_ranges_within-2
is_within-returns-then-not-are_ranges_within-2 t c =
    first_too_high _ _ _ _ _ _ _ (is_quantified _ _ _ _ _ _ _ c.in-Quantified.is refl) c.in-Some.ensures c.are_ranges_within-in-Quantified.ensures c.if-not-are_ranges_within-2.true

pub is_within-returns-then-is_part_within-2 : goal.is_within-returns-then-is_part_within-2
is_within-returns-then-is_part_within-2 t c =
    last_decides _ _ _ _ _ _ _ _ _ (is_quantified _ _ _ _ _ _ _ c.in-Quantified.is c.get-then-is_part_within-2.ensures) c.in-Some.ensures
    c.are_ranges_within-in-Quantified.ensures c.if-not-are_ranges_within-2.false c.is_part_within-in-Quantified.ensures c.if-is_part_within-2.true
    c.is_within-then-is_part_within-2.ensures
