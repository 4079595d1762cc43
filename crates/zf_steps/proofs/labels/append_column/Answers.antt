-- The components one after another.
use Rattle.zf_steps.proofs.Prelude.{◌∙◌, ap, arith, drop, length, map, refl, comp_of, component_texts}
use Rattle.zf_format.specs.declared.format.Format.TheVariants.{Lines}
use Rattle.zf_steps.proofs.Columns.{column-further, column-over}
use Rattle.zf_steps.proofs.labels.append_column.Goals as goal
use Rattle.zf_print.proofs.Printing.{drop-end, texts-drop, texts-nil}

pub loop-place-init : goal.loop-place-init
loop-place-init g c = (omega arith, refl)

pub returns-then-place-len : goal.returns-then-place-len
returns-then-place-len g c =
    let vs = g.R.Row.values c.args.row.now in
    let comps = map comp_of (drop c.loop-place.place c.args.flat.now.components) in
    let none = ap (component_texts c.args.elements.now comps) (drop-end c.loop-place.place vs (omega arith)) ∙ texts-nil Lines c.args.elements.now comps in
    column-over _ _ _ none c.loop-place.invariant.1

pub get-requires : goal.get-requires
get-requires g c = let l = c.loop-place.invariant.0 in omega arith

pub loop-place-preserved : goal.loop-place-preserved
loop-place-preserved g c =
    let vs = g.R.Row.values c.args.row.now in
    let next = texts-drop Lines c.args.elements.now c.args.flat.now.components c.as_slice-components.result.now vs c.loop-place.place c.index-components-place.result c.get.result.now
    c.as_slice-components.ensures c.index-components-place.is (omega arith) c.get.ensures in
    let l = c.loop-place.invariant.0 in
    (omega arith, column-further _ _ _ _ _ _ next c.loop-place.invariant.1 c.in_ok-append_component.ensures)

pub returns : goal.returns
returns g c =
    let none = ap (λ l. component_texts c.args.elements.now (map comp_of l) (drop c.loop-place.place (g.R.Row.values c.args.row.now)))
    (drop-end c.loop-place.place c.args.flat.now.components (omega (arith, ap length c.as_slice-components.ensures))) in
    column-over _ _ _ none c.loop-place.invariant.1
