use Rattle.zf_steps.proofs.Prelude.{◌∙◌, ap, filter_map, map, refl, Comp, comp_of, place_of}
use Rattle.zf_steps.proofs.Shapes.{filter_mapped, same_operation}
use Rattle.zf_steps.proofs.shape.init_of.Goals as goal

pub returns : goal.returns
returns c =
    let comps = c.as_slice-components.result.now in
    let wanted = c.args.wanted.now in
    same_operation _ _ refl refl c.new.ensures.items
    (c.in_ok-places_of.ensures ∙ filter_mapped (λ (x : Comp). place_of (map comp_of comps) x.name) comp_of wanted
    ∙ ap (λ ks. filter_map (λ (x : Comp). place_of (map comp_of ks) x.name) (map comp_of wanted)) c.as_slice-components.ensures)
    c.new-2.ensures.items c.in_ok-schema_at.ensures
