use Rattle.zf_term.proofs.Prelude.{◌∙◌, ◌≡◌, ap, arith, map, None, subst, sym, take_all, bytes_eq, comp_of, first_named}
use Rattle.zf_term.proofs.Found.{first_at, none_more}
use Rattle.zf_term.proofs.named.component_of.Goals as goal

pub returns-then-is_same : goal.returns-then-is_same
returns-then-is_same c =
    sym (first_at comp_of (λ d. d.name) c.args.name.now c.args.components.now c.loop-place.place c.index-components-place.result (omega arith) c.index-components-place.is c.loop-place.invariant
    (ap (λ x. bytes_eq x c.args.name.now) (sym c.as_slice.ensures) ∙ sym c.is_same.ensures ∙ c.if-is_same.true))

pub loop-place-preserved : goal.loop-place-preserved
loop-place-preserved c =
    none_more comp_of (λ d. d.name) c.args.name.now c.args.components.now c.loop-place.place c.index-components-place.result (omega arith) c.index-components-place.is c.loop-place.invariant
    (ap (λ x. bytes_eq x c.args.name.now) (sym c.as_slice.ensures) ∙ sym c.is_same.ensures ∙ c.if-is_same.false)

pub returns : goal.returns
returns c = sym (subst (λ cs. first_named (λ d. d.name) c.args.name.now (map comp_of cs) ≡ None) (take_all c.loop-place.place c.args.components.now c.loop-place-test.false) c.loop-place.invariant)
