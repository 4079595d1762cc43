use Rattle.zf_steps.proofs.Prelude.{◌∙◌, ◌⊎◌, ap, false, inr, map, subst, sym, true, MatchOption, comp_of, schema_of, before_of, are_after, HasAll, Lacks, LacksInit, with_strokes}
use Rattle.zf_steps.proofs.Shapes.{lacks_meant, match_option}
use Rattle.zf_steps.proofs.shape.init_lacks.Goals as goal

pub returns-then-are_after : goal.returns-then-are_after
returns-then-are_after c =
    let cs = before_of c.args.states in
    let a = schema_of c.args.schema.now in
    let name = c.in_ok-stroked.stroked.now in
    let whole = c.as_slice-components.ensures in
    let stroked = subst (λ ws. Lacks a.comps ws name) c.requires (subst (λ ks. Lacks (map comp_of ks) (map comp_of c.args.states.after.now) name) whole c.in_ok-stroked.ensures) in
    lacks_meant cs name name a true (sym c.if-are_after.true ∙ c.are_after.ensures ∙ ap (λ ks. are_after cs (map comp_of ks)) whole) stroked stroked

pub returns : goal.returns
returns c =
    let cs = before_of c.args.states in
    let a = schema_of c.args.schema.now in
    let name = c.in_ok-stroked.stroked.now in
    let whole = c.as_slice-components.ensures in
    let stroked = subst (λ ws. Lacks a.comps ws name) c.requires (subst (λ ks. Lacks (map comp_of ks) (map comp_of c.args.states.after.now) name) whole c.in_ok-stroked.ensures) in
    let plain = sym c.if-are_after.false ∙ c.are_after.ensures ∙ ap (λ ks. are_after cs (map comp_of ks)) whole in
    match_option c.lacking-2.result (HasAll a.comps cs) (HasAll a.comps (with_strokes cs) ⊎ HasAll a.comps cs) (λ lack. Lacks a.comps cs lack.now) (λ lack. LacksInit cs a lack.now)
    (λ has. inr has) (λ lack lacks. lacks_meant cs name lack.now a false plain stroked lacks)
    (subst (λ ks. MatchOption c.lacking-2.result (HasAll (map comp_of ks) cs) (λ lack. Lacks (map comp_of ks) cs lack.now)) whole c.lacking-2.ensures)
