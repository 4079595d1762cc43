use Rattle.zf_calculus.proofs.Prelude.{◌∙◌, ap, map, subst, sym, comp_of, conjunct_of, Comp, List, Schema, schema_of, HasLeft, new_place}
use Rattle.zf_calculus.proofs.Beside.{both_made}
use Rattle.zf_calculus.proofs.Placing.{are_new_places, as_many, same_places}
use Rattle.zf_calculus.proofs.growing.Growing.merge.Goals as goal

pub invariant_of-result : goal.invariant_of-result
invariant_of-result c =
    let at = same_places (map comp_of c.join_all.new.components) _ _ (map comp_of c.other.inside.flat.components) c.in_ok-places-2.ensures c.in_ok-places.ensures.places in
    let made = both_made (schema_of c.self.inside.flat) (schema_of c.other.inside.flat) (map comp_of c.join_all.new.components)
    (map conjunct_of c.take_moved.new.conjuncts) _ c.in_ok-places.ensures.ok at c.in_ok-take_moved.ensures in
    let left = rw (← c.self.view_is, ← c.other.view_is) at c.in-Ok.ensures.ok in
    subst (λ (a : Schema). HasLeft a c.in-Ok.left.sets c.in-Ok.left.nodes) (sym made) (left c.in_ok-places.ensures.room)

pub returns : goal.returns
returns c =
    let at = same_places (map comp_of c.join_all.new.components) _ _ (map comp_of c.other.inside.flat.components) c.in_ok-places-2.ensures c.in_ok-places.ensures.places in
    let made = both_made (schema_of c.self.inside.flat) (schema_of c.other.inside.flat) (map comp_of c.join_all.new.components)
    (map conjunct_of c.take_moved.new.conjuncts) _ c.in_ok-places.ensures.ok at c.in_ok-take_moved.ensures in
    let left = rw (← c.self.view_is, ← c.other.view_is) at c.in-Ok.ensures.ok in
    rw (← c.self.view_is, ← c.other.view_is) record {
      ok = (made, (left c.in_ok-places.ensures.room).within);
      places = are_new_places _ _ _ at ∙ ap (λ (cs : List Comp). new_place (map comp_of c.other.inside.flat.components) cs) c.in_ok-places.ensures.ok;
      each = as_many _ _ _ at;
      err = tt;
    }
