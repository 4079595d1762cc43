use Rattle.zf_steps.proofs.Prelude.{◌≤◌, ◌∙◌, ap, map, subst, sym, length-map, Component, comp_of, comp_at, before_of, is_other, others_from}
use Rattle.zf_steps.proofs.Shapes.{others_push, others_whole}
use Rattle.zf_steps.proofs.shape.others_of.Goals as goal

pub loop-place-preserved : goal.loop-place-preserved
loop-place-preserved c =
    let cs = before_of c.args.states in
    let comps = map comp_of c.args.components.now in
    let x = c.index-components-place.result in
    others_push cs comps c.loop-place.place (comp_of x) c.loop-place.others.items c.add_other.new.others.items (others_from cs 0 comps) c.is_other.result
    (comp_at c.args.components.now c.loop-place.place x c.index-components-place.is c.loop-place-test.true) c.loop-place.invariant
    (c.is_other.ensures ∙ ap (is_other cs) (c.as_slice-name.ensures ∙ ap (λ (y : Component). y.name) (sym c.index-components-place.is)))
    c.in_ok-add_other.ensures

pub returns : goal.returns
returns c =
    let comps = map comp_of c.args.components.now in
    others_whole (before_of c.args.states) comps c.loop-place.place c.loop-place.others.items _
    (subst (λ n. n ≤ c.loop-place.place) (sym (length-map c.args.components.now comp_of)) c.loop-place-test.false) c.loop-place.invariant
