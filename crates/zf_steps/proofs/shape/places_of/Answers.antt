use Rattle.zf_steps.proofs.Prelude.{map, comp_of, place_of}
use Rattle.zf_places.proofs.Picked.{filter_push}
use Rattle.zf_steps.proofs.shape.places_of.Goals as goal

pub loop-component-preserved : goal.loop-component-preserved
loop-component-preserved c =
    filter_push (λ x. place_of (map comp_of c.args.components.now) (comp_of x).name) c.args.wanted.now c.loop-component.component-index _
    c.component-item.result c.loop-component.places.items c.add_place.new.places.items
    c.place_of.result c.component-item.is c.loop-component-test.true c.loop-component.invariant (rw c.as_slice.ensures at c.place_of.ensures) c.in_ok-add_place.ensures
