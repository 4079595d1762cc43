-- The values at the places from i on are numbered, and there are few numbers.
use Rattle.zf_parts.proofs.Prelude.{◌-◌, ap, arith, get_or, length, get_or_default}
use Rattle.zf_parts.proofs.Numbering.{length_weights}
use Rattle.zf_parts.proofs.Weighing.{numbering_next, numbering_small}
use Rattle.zf_parts.proofs.weights.Weights.number_of.Goals as goal

pub index-requires : goal.index-requires
index-requires g c =
    let weighs = c.requires.weights in
    let near = c.loop-i.invariant.near in
    omega (arith, near, c.loop-i-test.true, ap length weighs.each, length_weights (g.P.Located.ranges c.args.row.now) c.args.places.now)

pub overflow_mul-number : goal.overflow_mul-number
overflow_mul-number g c =
    let near = c.loop-i.invariant.near in
    let low = c.requires.within (c.loop-i.i - 1) 0 (omega (arith, near, c.loop-i-test.true)) in
    omega (arith, numbering_small (g.P.Located.ranges c.args.row.now) c.args.places.now (g.P.Row.values c.args.row.now) c.loop-i.i (c.loop-i.i - 1) (omega (arith, c.loop-i-test.true)) c.args.self.now c.requires.weights c.loop-i.number c.loop-i.invariant (get_or c.args.places.now (c.loop-i.i - 1) 0) c.place.result c.index.result.now (get_or_default c.args.places.now (c.loop-i.i - 1) 0 (get_or c.args.places.now (c.loop-i.i - 1) 0) (omega (arith, near, c.loop-i-test.true))) c.place.ensures low c.index.ensures)

pub overflow_add-number : goal.overflow_add-number
overflow_add-number g c =
    let near = c.loop-i.invariant.near in
    let low = c.requires.within (c.loop-i.i - 1) 0 (omega (arith, near, c.loop-i-test.true)) in
    omega (arith, numbering_small (g.P.Located.ranges c.args.row.now) c.args.places.now (g.P.Row.values c.args.row.now) c.loop-i.i (c.loop-i.i - 1) (omega (arith, c.loop-i-test.true)) c.args.self.now c.requires.weights c.loop-i.number c.loop-i.invariant (get_or c.args.places.now (c.loop-i.i - 1) 0) c.place.result c.index.result.now (get_or_default c.args.places.now (c.loop-i.i - 1) 0 (get_or c.args.places.now (c.loop-i.i - 1) 0) (omega (arith, near, c.loop-i-test.true))) c.place.ensures low c.index.ensures)

pub loop-i-preserved : goal.loop-i-preserved
loop-i-preserved g c =
    let near = c.loop-i.invariant.near in
    let low = c.requires.within (c.loop-i.i - 1) 0 (omega (arith, near, c.loop-i-test.true)) in
    numbering_next (g.P.Located.ranges c.args.row.now) c.args.places.now (g.P.Row.values c.args.row.now) c.loop-i.i (c.loop-i.i - 1) (omega (arith, c.loop-i-test.true)) c.args.self.now c.requires.weights c.loop-i.number c.loop-i.invariant (get_or c.args.places.now (c.loop-i.i - 1) 0) c.place.result c.index.result.now (get_or_default c.args.places.now (c.loop-i.i - 1) 0 (get_or c.args.places.now (c.loop-i.i - 1) 0) (omega (arith, near, c.loop-i-test.true))) c.place.ensures low c.index.ensures
