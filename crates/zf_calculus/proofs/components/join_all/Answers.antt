use Rattle.zf_calculus.proofs.Prelude.{◌∙◌, ◌≡◌, [], ap, arith, length, List, map, rules, subst, sym, nil_from_length, into_iter_items, Comp, comp_of, Component, with_comps, AreAt}
use Rattle.zf_calculus.proofs.Placing.{all_placed, still_placed, still_whole, stops_joining}
use Rattle.zf_calculus.proofs.Stopping.{weaker}
use Rattle.zf_calculus.proofs.components.join_all.Goals as goal

pub loop-component-preserved : goal.loop-component-preserved
loop-component-preserved c =
    let first = into_iter_items c.into_iter-component-iterator.result in
    let all = with_comps (map comp_of c.args.components.now) (map comp_of first) in
    record {
      room = omega (arith, c.in_ok-join.ensures.room, ap length c.in_ok-join.ensures.ok);
      whole = still_whole (map comp_of c.loop-component.components) (map comp_of c.join.new.components) all c.in-Some.component
          (into_iter_items c.loop-component.component-iterator) (into_iter_items c.next.new.self) c.in-Some.ensures.steps.0 c.in_ok-join.ensures.ok
          c.loop-component.invariant.whole;
      places = still_placed (map comp_of c.loop-component.components) all c.in-Some.component (into_iter_items c.loop-component.component-iterator)
          (into_iter_items c.next.new.self) first c.in_ok-join.field-0 c.loop-component.places c.push.new.self c.in-Some.ensures.steps.0
          c.in_ok-join.ensures.place c.in_ok-push.ensures.ok c.loop-component.invariant.whole c.loop-component.invariant.places;
    }

pub returns-clause-places : goal.returns-clause-places
returns-clause-places c =
    let first = into_iter_items c.into_iter-component-iterator.result in
    let all = with_comps (map comp_of c.args.components.now) (map comp_of first) in
    let none : into_iter_items c.loop-component.component-iterator ≡ [] = nil_from_length _ (sym c.loop-component.component-iterator.rest.ok.0 ∙ c.in-None.ensures.steps.0) in
    let whole : map comp_of c.loop-component.components ≡ all = ap (λ (ys : List Component). with_comps (map comp_of c.loop-component.components)
    (map comp_of ys)) (sym none) ∙ c.loop-component.invariant.whole in
    let same : first ≡ c.args.further = cc in
    subst (λ (ys : List Component). AreAt (map comp_of c.loop-component.components) c.loop-component.places (map comp_of ys)) same
    (subst (λ (cs : List Comp). AreAt cs c.loop-component.places (map comp_of first)) (sym whole)
    (all_placed all c.loop-component.places (into_iter_items c.loop-component.component-iterator) first none c.loop-component.invariant.places))

pub returns-in_err-join-clause-err : goal.returns-in_err-join-clause-err
returns-in_err-join-clause-err c =
    let same : into_iter_items c.into_iter-component-iterator.result ≡ c.args.further = cc in
    let fact = weaker _ _ _ (stops_joining (map comp_of c.loop-component.components)
    (with_comps (map comp_of c.args.components.now) (map comp_of (into_iter_items c.into_iter-component-iterator.result))) c.in-Some.component
    (into_iter_items c.loop-component.component-iterator) (into_iter_items c.next.new.self) c.in-Some.ensures.steps.0 c.loop-component.invariant.whole)
    c.in_err-join.ensures.err in
    search rules
