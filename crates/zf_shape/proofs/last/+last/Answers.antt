use Rattle.zf_shape.proofs.Prelude.{arith, resolved_of}
use Rattle.zf_shape.proofs.Greatest.{greatest-most, links_step, ranges_step}
use Rattle.zf_shape.proofs.last.+last.Goals as goal

pub last_of-returns-then-is_last : goal.last_of-returns-then-is_last
last_of-returns-then-is_last g t c =
    let most = greatest-most (g.P.Places.number c.args.places.now) _ (c.is_last.ensures c.if-is_last.true) (resolved_of c.args.term.now) in
    omega (arith, most)

pub last_of_links-loop-link-preserved : goal.last_of_links-loop-link-preserved
last_of_links-loop-link-preserved g t c =
    let next = links_step (g.P.Places.number c.args.places.now) c.as_slice-link-items.result.now c.loop-link.link-index c.link-item.result c.link-item.is c.loop-link-test.true in
    omega (arith, next, c.loop-link.invariant, c.last_of-last.ensures)

pub last_of_ranges-loop-range-preserved : goal.last_of_ranges-loop-range-preserved
last_of_ranges-loop-range-preserved g t c =
    let next = ranges_step (g.P.Places.number c.args.places.now) c.as_slice-range-items.result.now c.loop-range.range-index c.range-item.result c.range-item.is c.loop-range-test.true in
    omega (arith, next, c.loop-range.invariant, c.last_of-last.ensures)
