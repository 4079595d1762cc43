use Rattle.zf_why.proofs.Prelude.{◌∙◌, ◌∷◌, ◌≡◌, [], ap, List, map, subst, sym, comp_of, conjunct_of, environment_of, CanBegin, Decides, IfOk, Conjunct}
use Rattle.zf_term.specs.declared.schema.Component.{Component}
use Rattle.zf_why.proofs.Beginning.{one_component}
use Rattle.zf_why.proofs.Explained.{value_decided}
use Rattle.zf_why.proofs.Lists.{seen_at}
use Rattle.zf_why.proofs.setting.Setting.has_value.Goals as goal

pub has_event-requires : goal.has_event-requires
has_event-requires c =
    let s = c.args.self.now in
    let e = environment_of s.env.now in
    let x = c.index-self-place.result in
    let is : c.in_ok-components.components ≡ x ∷ [] = c.in_ok-components.ensures ∙ ap (λ (y : Component). y ∷ []) (c.in_ok-share.ensures ∙ sym c.index-self-place.is) in
    subst (λ (ys : List Component). CanBegin e (map comp_of ys) (map conjunct_of c.new.result)) (sym is)
    (subst (λ (zs : List Conjunct). CanBegin e (comp_of x ∷ []) (map conjunct_of zs)) (sym c.new.ensures)
    (one_component e (map comp_of s.components.now) c.args.place (comp_of x) (seen_at comp_of s.components.now c.args.place x c.index-self-place.is c.requires.place) c.requires.begins))

pub returns : goal.returns
returns c =
    let s = c.args.self.now in
    let e = environment_of s.env.now in
    let x = c.index-self-place.result in
    let is : c.in_ok-components.components ≡ x ∷ [] = c.in_ok-components.ensures ∙ ap (λ (y : Component). y ∷ []) (c.in_ok-share.ensures ∙ sym c.index-self-place.is) in
    value_decided e (map comp_of s.components.now) s.held.now c.args.place (comp_of x) c.held_from.result.now c.has_event.result
    (seen_at comp_of s.components.now c.args.place x c.index-self-place.is c.requires.place) c.held_from.ensures
    (subst (λ (ys : List Component). IfOk c.has_event.result (Decides e (map comp_of ys) c.held_from.result.now [])) is
    (subst (λ (zs : List Conjunct). IfOk c.has_event.result (Decides e (map comp_of c.in_ok-components.components) c.held_from.result.now (map conjunct_of zs))) c.new.ensures c.has_event.ensures))
