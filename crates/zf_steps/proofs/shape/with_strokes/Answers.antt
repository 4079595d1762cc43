use Rattle.zf_steps.proofs.Prelude.{◌+◌, ◌≡◌, map, subst, sym, take, comp_of, stroked}
use Rattle.zf_steps.proofs.Shapes.{mapped_push, mapped_whole}
use Rattle.zf_steps.proofs.shape.with_strokes.Goals as goal

pub loop-component-preserved : goal.loop-component-preserved
loop-component-preserved c =
    let xs = c.args.components.now in
    let i = c.loop-component.component-index in
    subst (λ ys. map comp_of ys ≡ map (λ x. stroked (comp_of x)) (take (i + 1) xs)) (sym c.in_ok-push.ensures.ok)
    (mapped_push comp_of (λ x. stroked (comp_of x)) xs i c.component-item.result c.loop-component.stroked c.in_ok-with_stroke.field-0 c.component-item.is
    c.loop-component-test.true c.loop-component.invariant c.in_ok-with_stroke.ensures)

pub returns : goal.returns
returns c = mapped_whole comp_of stroked comp_of c.args.components.now c.loop-component.component-index c.loop-component.stroked c.loop-component-test.false c.loop-component.invariant
