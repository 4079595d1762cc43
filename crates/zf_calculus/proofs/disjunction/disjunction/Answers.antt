use Rattle.zf_calculus.proofs.Prelude.{◌∙◌, ap, List, map, comp_of, Component, moved, ResolvedTree, schema_of, sides_span, new_place}
use Rattle.zf_calculus.specs.Calculus as spec
use Rattle.zf_calculus.proofs.Disjoining.{sides_seen}
use Rattle.zf_calculus.proofs.disjunction.disjunction.Goals as goal

pub returns : goal.returns
returns c =
    let all = map comp_of c.args.components in
    let places =
    λ (t : ResolvedTree).
    c.in_ok-places.ensures t
    ∙ ap (λ (cs : List Component). moved (new_place (map comp_of cs) (map comp_of c.as_slice-2.result.now)) t) c.as_slice.ensures
    ∙ ap (λ (cs : List Component). moved (new_place (map comp_of c.args.right.now.components) (map comp_of cs)) t) c.as_slice-2.ensures
    in
    ap (λ (ts : List ResolvedTree). spec.schema_with all ts)
    (sides_seen (sides_span c.args.sides) all (schema_of c.args.left.now) (schema_of c.args.right.now) c.either.result c.in_ok-conjuncts.conjuncts
    c.in_ok-of_left.of_left c.in_ok-of_right.of_right c.in_ok-places.places c.in_ok-conjuncts.ensures c.either.ensures c.in_ok-of_left.ensures c.in_ok-of_right.ensures places)
