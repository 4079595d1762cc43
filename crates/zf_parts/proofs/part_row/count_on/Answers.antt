use Rattle.zf_parts.proofs.Prelude.{◌<◌, ◌∙◌, [], ap, arith, length, refl, subst, sym, ◌-◌, get_or_default, ranges_at, total}
use Rattle.zf_parts.proofs.Counting.{counting_first, counting_next, not_first, some_value, sum_fits}
use Rattle.zf_parts.proofs.Numbering.{length_ranges, range_there}
use Rattle.zf_parts.proofs.part_row.count_on.Goals as goal

pub loop-left-init : goal.loop-left-init
loop-left-init c = counting_first c.args.ranges.now c.args.places.now _ c.args.digits.now.items c.args.more c.requires.long c.requires.within refl

pub overflow_add-index : goal.overflow_add-index
overflow_add-index c =
    let h = c.loop-left.invariant in
    let first = not_first _ _ _ _ _ _ h c.loop-left-test.true c.requires.fits in
    let some : 0 < total (ranges_at c.args.ranges.now c.args.places.now) = omega (arith, c.requires.fits) in
    let at = c.index.ensures ∙ get_or_default c.loop-left.digits.items (c.loop-left.i - 1) _ 0 (omega (arith, first, h.near, h.long)) in
    omega (arith, sum_fits _ _ _ _ _ _ h c.loop-left-test.true c.requires.fits (c.loop-left.i - 1) (omega (arith, first)) _ at some, c.requires.fits, c.requires.few)

pub carried-digit-requires : goal.carried-digit-requires
carried-digit-requires c =
    let h = c.loop-left.invariant in
    let first = not_first _ _ _ _ _ _ h c.loop-left-test.true c.requires.fits in
    let near : c.loop-left.i - 1 < length c.args.places.now = omega (arith, first, h.near) in
    let some : 0 < total (ranges_at c.args.ranges.now c.args.places.now) = omega (arith, c.requires.fits) in
    let there = some_value (ranges_at c.args.ranges.now c.args.places.now) (c.loop-left.i - 1) (omega (arith, near, length_ranges c.args.ranges.now c.args.places.now)) some in
    subst (λ n. 0 < n) (ap length (range_there c.args.ranges.now c.args.places.now (c.loop-left.i - 1) near) ∙ sym c.count_at.ensures) there

pub loop-left-preserved : goal.loop-left-preserved
loop-left-preserved c =
    let h = c.loop-left.invariant in
    let first = not_first _ _ _ _ _ _ h c.loop-left-test.true c.requires.fits in
    let some : 0 < total (ranges_at c.args.ranges.now c.args.places.now) = omega (arith, c.requires.fits) in
    let at = c.index.ensures ∙ get_or_default c.loop-left.digits.items (c.loop-left.i - 1) _ 0 (omega (arith, first, h.near, h.long)) in
    counting_next _ _ _ _ _ _ h c.loop-left-test.true c.requires.fits (c.loop-left.i - 1) (omega (arith, first)) _ at some
    c.carried-digit.result.0 c.carried-digit.result.1 c.count_at.result c.count_at.ensures c.carried-digit.ensures.sum c.carried-digit.ensures.low
