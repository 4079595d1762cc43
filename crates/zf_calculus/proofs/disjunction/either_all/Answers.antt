use Rattle.zf_calculus.proofs.Prelude.{◌∙◌, ap, map, rules, sym, take, comp_of, either_comp, with_comps}
use Rattle.zf_calculus.proofs.Disjoining.{one_further, stops_among}
use Rattle.zf_calculus.proofs.Stopping.{weaker}
use Rattle.zf_calculus.proofs.disjunction.either_all.Goals as goal

pub loop-component-preserved : goal.loop-component-preserved
loop-component-preserved c =
    let cs = map comp_of c.args.left.now in
    c.in_ok-either_more.ensures.ok (with_comps cs (map comp_of (take c.loop-component.component-index c.args.right.now))) c.loop-component.invariant
    ∙ ap (map (either_comp cs (map comp_of c.args.right.now))) (sym (one_further cs c.args.right.now c.loop-component.component-index c.component-item.result
    c.component-item.is c.loop-component-test.true))

pub returns-in_err-either_more-clause-err : goal.returns-in_err-either_more-clause-err
returns-in_err-either_more-clause-err c =
    let fact = weaker _ _ _ (stops_among (map comp_of c.args.left.now) (map comp_of c.args.right.now) c.args.right.now c.loop-component.component-index
    c.component-item.result (map comp_of c.loop-component.made) c.component-item.is c.loop-component-test.true c.loop-component.invariant)
    c.in_err-either_more.ensures.err in
    search rules
