use Rattle.zf_term.proofs.Prelude.{◌+◌, ◌-◌, ◌∙◌, ◌≡◌, ap, arith, map, sym, type_nodes, nodes_of_all, types, type_of}
use Rattle.zf_term.proofs.TypeForms.{some_nodes, one_node, nodes-Power, nodes-Product, left_of_both}
use Rattle.zf_term.proofs.TypeLists.{counted}
use Rattle.zf_term.proofs.ztype.+room.Goals as goal

pub ZType::room_after-loop-left-preserved : goal.ZType::room_after-loop-left-preserved
ZType::room_after-loop-left-preserved t c =
    let one : type_nodes (type_of c.loop-left.ztype.now) ≡ type_nodes (type_of c.get-ztype.result.now) + 1 =
    nodes-Power c.loop-left.ztype.now _ c.in-Power.is ∙ ap (λ x. type_nodes (type_of x) + 1) (sym c.get-ztype.ensures) in
    record { counts = omega (arith, one, c.loop-left.invariant.counts, c.loop-left-test.true); less = omega (arith, c.loop-left.invariant.less) }

pub ZType::room_after-returns-in-Int : goal.ZType::room_after-returns-in-Int
ZType::room_after-returns-in-Int t c = omega (arith, one_node c.loop-left.ztype.now c.in-Int.is, c.loop-left.invariant.counts, c.loop-left-test.true)

pub ZType::room_after-returns-in-Int-2 : goal.ZType::room_after-returns-in-Int-2
ZType::room_after-returns-in-Int-2 t c = omega (arith, one_node c.loop-left.ztype.now c.in-Int.is, c.loop-left.invariant.counts, c.loop-left-test.true)

pub ZType::room_after-returns-in-Product : goal.ZType::room_after-returns-in-Product
ZType::room_after-returns-in-Product t c =
    let one = nodes-Product c.loop-left.ztype.now _ c.in-Product.is ∙ ap (λ ts. nodes_of_all (types (map type_of ts)) + 1) (sym (c.as_slice.ensures ∙ c.get.ensures)) in
    left_of_both c.room_after_all.result c.args.room (c.loop-left.left - 1) _ _ (omega (arith, one, c.loop-left.invariant.counts, c.loop-left-test.true)) c.room_after_all.ensures

pub ZType::room_after-returns : goal.ZType::room_after-returns
ZType::room_after-returns t c = omega (arith, some_nodes (type_of c.loop-left.ztype.now), c.loop-left.invariant.counts, c.loop-left-test.false)

pub room_after_all-loop-part-preserved : goal.room_after_all-loop-part-preserved
room_after_all-loop-part-preserved t c = record {
  counts = omega (arith, counted c.args.parts.now c.loop-part.part-index c.part-item.result c.part-item.is c.loop-part-test.true, c.loop-part.invariant.counts, c.in-Some.ensures);
  less = omega (arith, c.loop-part.invariant.less, c.in-Some.ensures);
}

pub room_after_all-room_after-requires : goal.room_after_all-room_after-requires
room_after_all-room_after-requires t c = (omega (arith, c.loop-part.invariant.less), tt)
