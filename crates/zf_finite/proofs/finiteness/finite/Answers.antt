use Rattle.zf_finite.proofs.Prelude.{◌∙◌, ap, flat_map, map, comp_of, globals_of, schema_of, first, comp_causes, Offends}
use Rattle.zf_finite.proofs.FiniteSchemas.{is_finite}
use Rattle.zf_finite.proofs.FirstCauses.{first_behind, first_in_front, none_found}
use Rattle.zf_finite.proofs.finiteness.finite.Goals as goal

pub returns-in-Some-clause-err : goal.returns-in-Some-clause-err
returns-in-Some-clause-err c =
    let g = globals_of c.args.globals.now in
    let comps = c.in-Some.ensures ∙ ap (λ cs. first (flat_map (comp_causes c.args.numbers g) (map comp_of cs))) c.as_slice.ensures in
    first_in_front _ _ _ comps

pub returns-in-Some-conjuncts_offender-clause-err : goal.returns-in-Some-conjuncts_offender-clause-err
returns-in-Some-conjuncts_offender-clause-err c =
    let g = globals_of c.args.globals.now in
    let comps = c.in-None.ensures ∙ ap (λ cs. first (flat_map (comp_causes c.args.numbers g) (map comp_of cs))) c.as_slice.ensures in
    let conjuncts = c.in-Some-conjuncts_offender.ensures in
    first_behind Offends _ _ _ comps conjuncts

pub returns-in-None-conjuncts_offender-clause-ok : goal.returns-in-None-conjuncts_offender-clause-ok
returns-in-None-conjuncts_offender-clause-ok c =
    let g = globals_of c.args.globals.now in
    let comps = c.in-None.ensures ∙ ap (λ cs. first (flat_map (comp_causes c.args.numbers g) (map comp_of cs))) c.as_slice.ensures in
    let conjuncts = c.in-None-conjuncts_offender.ensures in
    is_finite c.args.numbers g (schema_of c.args.schema.now) (none_found _ comps) (none_found _ conjuncts)
