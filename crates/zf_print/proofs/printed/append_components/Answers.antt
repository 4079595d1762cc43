use Rattle.zf_print.proofs.Prelude.{◌++◌, ◌∙◌, ap, arith, drop, length, map, refl, sym, comp_of, components_in, goes_on}
use Rattle.zf_print.proofs.Printing.{ahead-further, texts-drop, texts-nil, drop-end, line-ended}
use Rattle.zf_print.proofs.printed.append_components.Goals as goal

pub loop-place-init : goal.loop-place-init
loop-place-init g c = (omega arith, refl)

pub returns-then-place-len : goal.returns-then-place-len
returns-then-place-len g c =
    let vs = g.R.Row.values c.args.row.now in
    let comps = map comp_of (drop c.loop-place.place c.args.flat.now.components) in
    let none = ap (components_in c.args.format c.args.spellings.now comps) (drop-end c.loop-place.place vs (omega arith)) ∙ texts-nil c.args.format c.args.spellings.now comps in
    line-ended _ _ c.loop-place.place _ none c.loop-place.invariant.1

pub get-requires : goal.get-requires
get-requires g c = let l = c.loop-place.invariant.0 in omega arith

pub loop-place-preserved : goal.loop-place-preserved
loop-place-preserved g c =
    let vs = g.R.Row.values c.args.row.now in
    let next = texts-drop c.args.format c.args.spellings.now c.args.flat.now.components c.as_slice-components.result.now vs c.loop-place.place
    c.index-components-place.result c.get.result.now c.as_slice-components.ensures c.index-components-place.is (omega arith) c.get.ensures in
    let ahead = ap (λ l. c.loop-place.text.items ++ goes_on c.loop-place.place l) (sym next) ∙ c.loop-place.invariant.1 in
    let l = c.loop-place.invariant.0 in (
      omega arith,
      ahead-further c.loop-place.text.items c.append_separator.new.text.items c.append_component.new.text.items _ _ c.loop-place.place _ ahead
          c.in_ok-append_separator.ensures c.in_ok-append_component.ensures,
    )

pub returns : goal.returns
returns g c =
    let none = ap (λ l. components_in c.args.format c.args.spellings.now (map comp_of l) (drop c.loop-place.place (g.R.Row.values c.args.row.now)))
    (drop-end c.loop-place.place c.args.flat.now.components (omega (arith, ap length c.as_slice-components.ensures))) in
    line-ended _ _ c.loop-place.place _ none c.loop-place.invariant.1
