use Rattle.zf_value.proofs.Prelude.{◌∙◌, ap, sym, Greater, ordering_then, value_order}
use Rattle.zf_value.proofs.Stretches.{longer_beside}
use Rattle.zf_value.proofs.relation.parts_beside_pair.Goals as goal

pub returns-in-len3-up : goal.returns-in-len3-up
returns-in-len3-up c =
    let a = c.a-item-2.result in
    let b = c.b-item-2.result in
    c.then-in-len3-up-2.ensures ∙ ap (λ o. ordering_then o c.then-in-len3-up.result) c.order-in-len3-up.ensures
    ∙ ap (ordering_then (value_order a c.args.x.now)) (c.then-in-len3-up.ensures ∙ ap (λ o. ordering_then o Greater) c.order-in-len3-up-2.ensures)
    ∙ sym (longer_beside c.args.parts.now c.args.x.now c.args.y.now a b c.in-len3-up.len_at_least c.a-item-2.is c.b-item-2.is)
