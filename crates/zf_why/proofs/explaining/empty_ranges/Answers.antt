use Rattle.zf_why.proofs.Prelude.{arith, map, subst, sym, Bool, List, take, ◌+◌, comp_of, environment_of, ArePicked, HasNoValue, HasValue, length-map}
use Rattle.zf_why.proofs.Picking.{next_picked, none_picked, picked_all}
use Rattle.zf_why.proofs.explaining.empty_ranges.Goals as goal

pub loop-place-init : goal.loop-place-init
loop-place-init c =
    let s = c.args.setting.now in
    let e = environment_of s.env.now in
    let cs = map comp_of s.components.now in
    subst (λ (m : List Bool). ArePicked (HasNoValue e s.held.now) (HasValue e s.held.now) (take 0 cs) m) (sym c.in_ok-empty.ensures.items) (none_picked _ _ cs)

pub loop-place-preserved : goal.loop-place-preserved
loop-place-preserved c =
    let s = c.args.setting.now in
    let e = environment_of s.env.now in
    let cs = map comp_of s.components.now in
    subst (λ (m : List Bool). ArePicked (HasNoValue e s.held.now) (HasValue e s.held.now) (take (c.loop-place.place + 1) cs) m) (sym c.in_ok-push.ensures.items)
    (next_picked (HasNoValue e s.held.now) (HasValue e s.held.now) cs c.loop-place.place c.in_ok-has_value.has_value c.loop-place.empty.items
    (omega (arith, length-map s.components.now comp_of, c.loop-place-test.true)) c.in_ok-has_value.ensures c.loop-place.invariant)

pub returns : goal.returns
returns c = picked_all _ _ (map comp_of c.args.setting.now.components.now) c.loop-place.place c.loop-place.empty.items
    (omega (arith, length-map c.args.setting.now.components.now comp_of, c.loop-place-test.false)) c.loop-place.invariant
