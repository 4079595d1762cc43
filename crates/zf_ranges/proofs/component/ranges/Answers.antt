-- The ranges of components, one after another.
use Rattle.zf_ranges.proofs.Prelude.{◌+◌, List, map, Option, subst, sym, take, IsTrue, Value, comp_of, sets_of, one_bounds, environment_of, AreAllRanges, held_at, IsOneRange}
use Rattle.zf_ranges.proofs.Comps.{comp_at, all_at, none_yet, all_next, all_done, refused}
use Rattle.zf_ranges.proofs.component.ranges.Goals as goal

pub loop-place-init : goal.loop-place-init
loop-place-init c = none_yet (environment_of c.args.env.now) (map comp_of c.args.components.now) c.args.held.now c.in_ok-ranges.ranges.items c.in_ok-ranges.ensures.items

pub range_at-requires : goal.range_at-requires
range_at-requires c =
    all_at (λ d. IsTrue (one_bounds (environment_of c.args.env.now).numbers (environment_of c.args.env.now).globals (sets_of d.sets)))
    (map comp_of c.args.components.now) c.loop-place.place (comp_of c.index-components-place.result)
    (comp_at c.args.components.now c.loop-place.place c.index-components-place.result c.index-components-place.is c.loop-place-test.true) c.requires

pub loop-place-preserved : goal.loop-place-preserved
loop-place-preserved c =
    let e = environment_of c.args.env.now in
    let place = c.loop-place.place in
    let comp = comp_of c.index-components-place.result in
    let held = held_at place c.args.held.now in
    let one = subst (λ (h : Option Value). IsOneRange e comp h c.in_ok-range.range) c.value_held-of_this.ensures c.in_ok-range.ensures.is in
    subst (λ (rs : List (List Value)). AreAllRanges e (take (place + 1) (map comp_of c.args.components.now)) c.args.held.now rs) (sym c.in_ok-push.ensures.items)
    (all_next e (map comp_of c.args.components.now) c.args.held.now place comp c.loop-place.ranges.items _
    (comp_at c.args.components.now place c.index-components-place.result c.index-components-place.is c.loop-place-test.true) c.loop-place.invariant
    (subst (IsOneRange e comp held) (sym c.shared.ensures) one))

pub returns-in_err-range-clause-refused : goal.returns-in_err-range-clause-refused
returns-in_err-range-clause-refused c =
    refused (environment_of c.args.env.now) (map comp_of c.args.components.now) c.loop-place.place
    (comp_of c.index-components-place.result) c.in_err-range.field-0.0 c.from_residual-in_err-range.result c.from_residual-in_err-range.ensures.1
    (comp_at c.args.components.now c.loop-place.place c.index-components-place.result c.index-components-place.is c.loop-place-test.true) c.loop-place.invariant.1 c.in_err-range.ensures.refused

pub returns : goal.returns
returns c = record {
  is = all_done (environment_of c.args.env.now) c.args.components.now c.args.held.now c.loop-place.place c.loop-place.ranges.items c.loop-place-test.false c.loop-place.invariant;
  refused = tt;
}
