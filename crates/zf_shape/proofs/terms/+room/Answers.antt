use Rattle.std.proofs.Common.{refl, arith}
use Rattle.zf_shape.proofs.Nodes.{terms_more, links_more, ranges_more, of_comprehension, of_quantified, last_of_three, none_left}
use Rattle.zf_shape.proofs.terms.+room.Goals as goal

pub room_after_terms-loop-term-preserved : goal.room_after_terms-loop-term-preserved
room_after_terms-loop-term-preserved t c = omega (arith, c.loop-term.invariant, c.in_ok-left.ensures, terms_more _ _ _ c.term-item.is c.loop-term-test.true)

pub room_after_links-loop-link-preserved : goal.room_after_links-loop-link-preserved
room_after_links-loop-link-preserved t c = omega (arith, c.loop-link.invariant, c.in_ok-left.ensures, links_more _ _ _ c.link-item.is c.loop-link-test.true)

pub room_after_ranges-loop-range-preserved : goal.room_after_ranges-loop-range-preserved
room_after_ranges-loop-range-preserved t c = omega (arith, c.loop-range.invariant, c.in_ok-left.ensures, ranges_more _ _ _ c.range-item.is c.loop-range-test.true)

pub room_after-returns-in_err-left-in-Comprehension : goal.room_after-returns-in_err-left-in-Comprehension
room_after-returns-in_err-left-in-Comprehension t c =
    none_left _ _ _ c.from_residual.ensures (omega (arith, of_comprehension _ _ _ _ _ c.in-Comprehension.is, c.in-Some.ensures, c.in_err-left-in-Comprehension.ensures))

pub room_after-returns-in_err-room_after_part-in-Comprehension : goal.room_after-returns-in_err-room_after_part-in-Comprehension
room_after-returns-in_err-room_after_part-in-Comprehension t c =
    none_left _ _ _ c.from_residual-in_err-room_after_part-in-Comprehension.ensures
    (omega (arith, of_comprehension _ _ _ _ _ c.in-Comprehension.is, c.in-Some.ensures, c.in_ok-left-in-Comprehension.ensures, c.in_err-room_after_part-in-Comprehension.ensures))

pub room_after-returns-in_ok-room_after_part-in-Comprehension : goal.room_after-returns-in_ok-room_after_part-in-Comprehension
room_after-returns-in_ok-room_after_part-in-Comprehension t c =
    last_of_three _ _ _ _ _ _ _ _ _ (of_comprehension _ _ _ _ _ c.in-Comprehension.is)
    (omega (arith, c.in-Some.ensures)) c.in_ok-left-in-Comprehension.ensures c.in_ok-room_after_part-in-Comprehension.ensures c.room_after_part-in-Comprehension.ensures

pub room_after-returns-in_err-left-in-Quantified : goal.room_after-returns-in_err-left-in-Quantified
room_after-returns-in_err-left-in-Quantified t c =
    none_left _ _ _ c.from_residual-in_err-left-in-Quantified.ensures (omega (arith, of_quantified _ _ _ _ _ _ _ c.in-Quantified.is refl, c.in-Some.ensures, c.in_err-left-in-Quantified.ensures))

pub room_after-returns-in_err-room_after_part-in-Quantified : goal.room_after-returns-in_err-room_after_part-in-Quantified
room_after-returns-in_err-room_after_part-in-Quantified t c =
    none_left _ _ _ c.from_residual-in_err-room_after_part-in-Quantified.ensures
    (omega (
      arith,
      of_quantified _ _ _ _ _ _ _ c.in-Quantified.is c.get-in-Quantified.ensures,
      c.in-Some.ensures,
      c.in_ok-left-in-Quantified.ensures,
      c.in_err-room_after_part-in-Quantified.ensures,
    ))
