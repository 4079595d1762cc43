use Rattle.zf_walk.proofs.Prelude.{arith}
use Rattle.zf_walk.proofs.Marking.{front-next, front-small}
use Rattle.zf_walk.proofs.table.Table.front.Goals as goal

pub overflow_mul-number : goal.overflow_mul-number
overflow_mul-number c =
    let small = front-small c.args.self.now.used.items c.args.places.now c.loop-i.number c.loop-i.i c.index-used.result.now c.index-used.ensures
    (omega (arith, c.loop-i-test.true, c.requires.count)) c.if-used-places.false c.requires.fits.used (c.loop-i.invariant 0) in
    omega (arith, small, c.requires.fits.few)

pub overflow_add-number : goal.overflow_add-number
overflow_add-number c =
    let small = front-small c.args.self.now.used.items c.args.places.now c.loop-i.number c.loop-i.i c.index-used.result.now c.index-used.ensures
    (omega (arith, c.loop-i-test.true, c.requires.count)) c.if-used-places.false c.requires.fits.used (c.loop-i.invariant 0) in
    omega (arith, small, c.requires.fits.few)

pub loop-i-preserved : goal.loop-i-preserved
loop-i-preserved c = λ i.
    front-next c.args.self.now.used.items c.args.places.now c.loop-i.number c.loop-i.i c.index-used.result.now c.index-used.ensures
    (omega (arith, c.loop-i-test.true, c.requires.count)) c.if-used-places.false i (c.loop-i.invariant i)
