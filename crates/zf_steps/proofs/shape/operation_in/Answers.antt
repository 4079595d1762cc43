use Rattle.zf_steps.proofs.Prelude.{◌∙◌, ap, map, refl, Comp, comp_of, comps_at, before_of, others_from, place_of, places_of, sources_of, with_strokes}
use Rattle.zf_steps.proofs.Fitting.{map_map}
use Rattle.zf_steps.proofs.Shapes.{filter_mapped, same_operation}
use Rattle.zf_steps.proofs.shape.operation_in.Goals as goal

pub returns : goal.returns
returns c =
    let comps = c.as_slice-components.result.now in
    let whole = c.as_slice-components.ensures in
    let cs = before_of c.args.states in
    let others = c.in_ok-others.ensures ∙ ap (λ ks. others_from cs 0 (map comp_of ks)) whole in
    same_operation _ _ refl refl
    (c.in_ok-sources_of.ensures ∙ map_map (λ (x : Comp). place_of cs x.name) comp_of comps ∙ ap (λ ks. sources_of cs (map comp_of ks)) whole)
    (c.in_ok-places_of.ensures ∙ filter_mapped (λ (x : Comp). place_of (map comp_of comps) x.name) comp_of c.args.states.after.now
    ∙ ap (λ ws. places_of (map comp_of comps) ws) c.requires ∙ ap (λ ks. places_of (map comp_of ks) (with_strokes cs)) whole)
    others
    (c.in_ok-label.ensures ∙ ap (comps_at (map comp_of comps)) (c.deref.ensures.value ∙ others)
    ∙ ap (λ ks. comps_at (map comp_of ks) (others_from cs 0 (map comp_of c.args.schema.now.components))) whole)
