use Rattle.std.proofs.Common.{map, refl, slice_get}
use Rattle.zf_term.specs.{comp_of}
use Rattle.zf_places.proofs.Picked.{filter_push}
use Rattle.zf_places.proofs.places.components_at.Goals as goal

pub loop-place-preserved : goal.loop-place-preserved
loop-place-preserved c =
    filter_push (slice_get (map comp_of c.args.components.now)) c.args.places.now c.loop-place.place-index _ _ (map comp_of c.loop-place.found) (map comp_of c.add_component.new.found)
    _ refl c.loop-place-test.true c.loop-place.invariant refl c.in_ok-add_component.ensures
