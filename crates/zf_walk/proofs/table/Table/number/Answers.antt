use Rattle.zf_walk.proofs.Prelude.{arith, number, Used}
use Rattle.zf_walk.proofs.Numbering.{next_digit, number_small, digit_small}
use Rattle.zf_walk.proofs.table.Table.number.Goals as goal

abbrev none : Used
none = record { component = 0; count = 0 }

pub overflow_mul-number : goal.overflow_mul-number
overflow_mul-number c =
    let small = digit_small c.args.self.now.used.items c.as_slice-used-items.result.now c.args.places.now c.loop-used.number c.loop-used.used-index none
    c.as_slice-used-items.ensures.value c.requires.used c.loop-used-test.true c.loop-used.invariant in
    omega (arith, small, c.requires.few)

pub overflow_add-number : goal.overflow_add-number
overflow_add-number c =
    let small = digit_small c.args.self.now.used.items c.as_slice-used-items.result.now c.args.places.now c.loop-used.number c.loop-used.used-index none
    c.as_slice-used-items.ensures.value c.requires.used c.loop-used-test.true c.loop-used.invariant in
    omega (arith, small, c.requires.few)

pub loop-used-preserved : goal.loop-used-preserved
loop-used-preserved c =
    next_digit c.as_slice-used-items.result.now c.args.places.now c.loop-used.number c.loop-used.used-index
    (number 0 c.args.self.now.used.items c.args.places.now) none c.loop-used-test.true c.loop-used.invariant

pub returns-clause-small : goal.returns-clause-small
returns-clause-small c =
    let small = number_small c.args.self.now.used.items c.as_slice-used-items.result.now c.args.places.now c.loop-used.number c.loop-used.used-index
    c.as_slice-used-items.ensures.value c.requires.used c.loop-used.invariant in
    omega (arith, small, c.requires.few)
