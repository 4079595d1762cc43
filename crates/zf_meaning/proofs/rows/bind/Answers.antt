use Rattle.std.proofs.Common.{◌<◌, [], length, ap, arith}
use Rattle.zf_meaning.proofs.NextRow.{ArePlaces-at, ArePlaces-length, seen-length, seen-at, bind-more, picked-none}
use Rattle.zf_meaning.proofs.rows.bind.Goals as goal

pub loop-i-init : goal.loop-i-init
loop-i-init c = picked-none _ _

pub bounds-lists-i : goal.bounds-lists-i
bounds-lists-i c = omega (arith, ArePlaces-length _ _ c.requires, seen-length c.args.lists.now)

pub value_at-requires : goal.value_at-requires
value_at-requires c =
    let l : c.loop-i.i < length c.args.lists.now = omega (arith, ArePlaces-length _ _ c.requires, seen-length c.args.lists.now) in
    let e = seen-at c.args.lists.now c.loop-i.i c.index-lists-i.result [] l c.index-lists-i.is in
    let h = ArePlaces-at _ _ c.loop-i.i [] c.requires c.loop-i-test.true in
    omega (arith, h, ap length e)

pub loop-i-preserved : goal.loop-i-preserved
loop-i-preserved c = bind-more c.args.lists.now c.args.places.now c.loop-i.i c.index-lists-i.result c.value_at.result _ _ _ c.requires c.loop-i-test.true
    c.index-lists-i.is c.value_at.ensures c.loop-i.invariant c.in_ok-push.ensures.items
