-- The ranges of the components, one after another, where a value is held.
use Rattle.zf_ranges.proofs.Prelude.{◌+◌, List, map, Option, subst, sym, take, IsTrue, Value, comp_of, sets_of, one_bounds, environment_of, AreHeldRanges, IsHeldRange}
use Rattle.zf_ranges.proofs.Comps.{comp_at, all_at}
use Rattle.zf_ranges.proofs.HeldRanges.{held_next, held_none_yet, held_done, not_out_at}
use Rattle.zf_ranges.proofs.component.held_ranges.Goals as goal

pub loop-place-init : goal.loop-place-init
loop-place-init c = held_none_yet (environment_of c.args.env.now) (map comp_of c.args.components.now) c.args.held.now c.in_ok-ranges.ranges.items c.in_ok-ranges.ensures.items

pub held_range-requires-clause-bounded : goal.held_range-requires-clause-bounded
held_range-requires-clause-bounded c =
    all_at (λ d. IsTrue (one_bounds (environment_of c.args.env.now).numbers (environment_of c.args.env.now).globals (sets_of d.sets)))
    (map comp_of c.args.components.now) c.loop-place.place (comp_of c.index-components-place.result)
    (comp_at c.args.components.now c.loop-place.place c.index-components-place.result c.index-components-place.is c.loop-place-test.true) c.requires.bounded

pub held_range-requires-clause-not_out : goal.held_range-requires-clause-not_out
held_range-requires-clause-not_out c =
    not_out_at (environment_of c.args.env.now) (map comp_of c.args.components.now) c.loop-place.place (comp_of c.index-components-place.result)
    (comp_at c.args.components.now c.loop-place.place c.index-components-place.result c.index-components-place.is c.loop-place-test.true) c.requires.none_out

pub loop-place-preserved : goal.loop-place-preserved
loop-place-preserved c =
    let e = environment_of c.args.env.now in
    let component = comp_of c.index-components-place.result in
    let range = c.in_ok-held_range.field-0 in
    let is = subst (λ (h : Option Value). IsHeldRange e component h range) c.value_held-of_this.ensures c.in_ok-held_range.ensures in
    subst (λ (rs : List (Option (List Value))). AreHeldRanges e (take (c.loop-place.place + 1) (map comp_of c.args.components.now)) c.args.held.now rs) (sym c.in_ok-push.ensures.items)
    (held_next e (map comp_of c.args.components.now) c.args.held.now c.loop-place.place component c.loop-place.ranges.items _
    (comp_at c.args.components.now c.loop-place.place c.index-components-place.result c.index-components-place.is c.loop-place-test.true) c.loop-place.invariant is)

pub returns : goal.returns
returns c = held_done (environment_of c.args.env.now) c.args.components.now c.args.held.now c.loop-place.place c.loop-place.ranges.items c.loop-place-test.false c.loop-place.invariant
