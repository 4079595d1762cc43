use Rattle.zf_plan.proofs.Prelude.{◌++◌, ◌<◌, ◌≤◌, ◌≡◌, ◌∙◌, ap, append-nil, arith, drop, get_or_default, length, map, set, take, take_all, cleared}
use Rattle.std.proofs.Math.ListN.{drop_of_length-le}
use Rattle.std.proofs.lemmas.List.Edits.{map_over_more}
use Rattle.zf_plan.proofs.memo.clear.Goals as goal

pub loop-leaf-init : goal.loop-leaf-init
loop-leaf-init c = c.deref_mut-leaf-items.ensures.value

pub loop-leaf-preserved : goal.loop-leaf-preserved
loop-leaf-preserved c =
    let old = c.args.leaves.now.items in
    let items = c.loop-leaf.leaf-items in
    let i = c.loop-leaf.leaf-index in
    let near : i < length items = omega (arith, c.loop-leaf-test.true, c.loop-leaf.auto.leaf-items) in
    let inside : i < length old = omega (arith, c.loop-leaf-test.true, ap length c.deref_mut-leaf-items.ensures.value) in
    ap (set items i) c.cleared.ensures ∙ map_over_more (cleared c.args.due) old items i _ inside c.loop-leaf.invariant (get_or_default items i _ _ near)

pub returns : goal.returns
returns c =
    let old = c.args.leaves.now.items in
    let items = c.loop-leaf.leaf-items in
    let i = c.loop-leaf.leaf-index in
    let len = c.args.leaves.now.len in
    let whole : length items ≡ length old = omega (arith, c.loop-leaf.auto.leaf-items, ap length c.deref_mut-leaf-items.ensures.value) in
    let over : length old ≤ i = omega (arith, c.loop-leaf-test.false, ap length c.deref_mut-leaf-items.ensures.value) in
    let back : take len (items ++ drop (length items) old) ≡ items =
    ap (λ xs. take len (items ++ xs)) (drop_of_length-le old (omega (arith, whole))) ∙ ap (take len) (append-nil items)
    ∙ take_all len items (omega (arith, whole, c.args.leaves.now.ok.0)) in
    back ∙ c.loop-leaf.invariant ∙ ap (λ xs. map (cleared c.args.due) xs ++ drop i old) (take_all i old over)
    ∙ ap (λ xs. map (cleared c.args.due) old ++ xs) (drop_of_length-le old over) ∙ append-nil (map (cleared c.args.due) old)
