use Rattle.std.proofs.Common.{◌++◌, ◌∙◌, ◌∷◌, [], ap, append-nil, map, option_to_list, sym}
use Rattle.std.proofs.lemmas.List.{map-append}
use Rattle.zf_term.specs.{comp_of}
use Rattle.zf_places.proofs.Picked.{mapped_at, past_mapped}
use Rattle.zf_places.proofs.places.add_component.Goals as goal

pub returns-in-None : goal.returns-in-None
returns-in-None c =
    let old = map comp_of c.args.found.now in
    sym (ap (λ o. old ++ option_to_list o) (past_mapped comp_of c.args.components.now c.args.place c.in-None.ensures.lookup.3) ∙ append-nil old)

pub returns-in_ok-add_same-in-Some : goal.returns-in_ok-add_same-in-Some
returns-in_ok-add_same-in-Some c =
    let old = c.args.found.now in
    let x = c.in-Some.component.now in
    let there = c.in-Some.ensures.lookup in
    ap (map comp_of) c.in_ok-add_same-in-Some.ensures ∙ map-append comp_of old (x ∷ [])
    ∙ ap (λ o. map comp_of old ++ option_to_list o) (sym (mapped_at comp_of c.args.components.now c.args.place x there.1 there.3.0))
