-- One more value.
use Rattle.zf_places.proofs.Picked.{one_more_taken}
use Rattle.zf_places.proofs.places.values_of.Goals as goal

pub loop-place-preserved : goal.loop-place-preserved
loop-place-preserved g c =
    rw c.in_ok-push.ensures.items (one_more_taken (g.R.Row.values c.args.row.now) c.loop-place.place c.loop-place.values.items c.loop-place.invariant
    c.in_ok-copy.field-0 c.get.result.now c.get.ensures c.in_ok-copy.ensures)
