use Rattle.zf_lines.proofs.Prelude.{comma_before, name_in, Component, ◌++◌, sym, ◌<◌, length, get_or, ap, ◌∙◌, subst, arith}
use Rattle.zf_lines.proofs.Parts.{all_columns, more_columns}
use Rattle.zf_lines.proofs.column.columns_of.Goals as goal

pub loop-place-preserved : goal.loop-place-preserved
loop-place-preserved c =
    let there : c.loop-place.place < length c.as_slice-components.result.now = omega arith in
    let deep = subst (λ cs. c.loop-place.place < length cs) c.as_slice-components.ensures there in
    let at = c.index-components-place.is ∙ ap (λ cs. get_or cs c.loop-place.place c.index-components-place.result) c.as_slice-components.ensures in (
      omega (arith, deep),
      λ ranges. more_columns c.args.style.now.format c.args.style.now.elements.now ranges c.args.flat.now.components c.loop-place.place
          c.index-components-place.result c.loop-place.columns.items c.push.new.self.items c.new.result
          at deep (c.new.ensures.head ∙ c.in_ok-head.ensures ∙ ap (λ name. comma_before c.loop-place.place ++ name_in c.args.style.now.format name)
          (c.as_slice.ensures ∙ ap (λ (d : Component). d.name) (sym c.index-components-place.is))) c.new.ensures.none c.in_ok-push.ensures.items
          (c.loop-place.invariant.1 ranges),
    )

pub returns : goal.returns
returns c ranges =
    all_columns c.args.style.now.format c.args.style.now.elements.now ranges c.args.flat.now.components c.loop-place.place c.loop-place.columns.items
    (omega (arith, ap length c.as_slice-components.ensures)) (c.loop-place.invariant.1 ranges)
