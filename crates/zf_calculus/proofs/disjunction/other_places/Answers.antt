use Rattle.zf_calculus.proofs.Prelude.{map, refl, comp_of, new_place}
use Rattle.zf_calculus.proofs.Disjoining.{further_places, own_places}
use Rattle.zf_calculus.proofs.disjunction.other_places.Goals as goal

pub returns-then-are_own : goal.returns-then-are_own
returns-then-are_own c =
    own_places (new_place (map comp_of c.args.components.now) (map comp_of c.args.among.now)) c.in_ok-places.places c.as_slice.result.now c.as_slice.ensures
    c.in_ok-places.ensures.places (c.if-are_own.ensures refl)

pub returns : goal.returns
returns c = further_places (new_place (map comp_of c.args.components.now) (map comp_of c.args.among.now)) c.in_ok-places.places c.in_ok-new.field-0 c.in_ok-new.ensures c.in_ok-places.ensures.places
