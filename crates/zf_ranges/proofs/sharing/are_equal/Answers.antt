-- Whether two lists are the same, value by value.
use Rattle.zf_ranges.proofs.Prelude.{add-one, arith, refl}
use Rattle.zf_ranges.proofs.Alike.{one_more, all_same}
use Rattle.zf_ranges.proofs.sharing.are_equal.Goals as goal

pub loop-place-init : goal.loop-place-init
loop-place-init c = refl

pub loop-place-preserved : goal.loop-place-preserved
loop-place-preserved c =
    rw add-one (one_more c.args.left.now c.args.right.now c.loop-place.place c.index-left-place.result c.index-right-place.result c.index-left-place.is c.index-right-place.is
    c.loop-place-test.true (omega (arith, c.loop-place-test.true, c.if-left-right.false)) c.loop-place.invariant (c.equals.ensures.0 c.if-not-equals.false))

pub returns : goal.returns
returns c = λ t. all_same c.args.left.now c.args.right.now c.loop-place.place (omega (arith, c.loop-place-test.false, c.loop-place.auto.place-end)) c.if-left-right.false c.loop-place.invariant
