use Rattle.zf_steps.proofs.Prelude.{◌∙◌, ap, map, refl, Comp, comp_of, place_of, sources_of}
use Rattle.zf_steps.proofs.Fitting.{map_map}
use Rattle.zf_steps.proofs.Shapes.{same_operation}
use Rattle.zf_steps.proofs.shape.test_in.Goals as goal

pub returns-clause-made : goal.returns-clause-made
returns-clause-made c =
    let state = map comp_of c.as_slice-before.result.now in
    let comps = c.as_slice-components.result.now in
    same_operation _ _ refl refl
    (c.in_ok-sources_of.ensures ∙ map_map (λ (x : Comp). place_of state x.name) comp_of comps ∙ ap (λ ks. sources_of state (map comp_of ks)) c.as_slice-components.ensures
    ∙ ap (λ ks. sources_of (map comp_of ks) (map comp_of c.args.schema.now.components)) c.as_slice-before.ensures)
    c.new.ensures.items c.new-2.ensures.items refl
