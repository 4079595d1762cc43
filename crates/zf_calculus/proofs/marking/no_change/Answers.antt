use Rattle.zf_calculus.proofs.Prelude.{◌∙◌, rules, subst, Schema, schema_of, equalities, IsNext}
use Rattle.zf_calculus.proofs.Changing.{stops_change, xi_made, stops_xi}
use Rattle.zf_calculus.proofs.Stopping.{weaker}
use Rattle.zf_calculus.proofs.marking.no_change.Goals as goal

pub returns-in_err-growing-clause-err : goal.returns-in_err-growing-clause-err
returns-in_err-growing-clause-err c =
    let fact = weaker _ _ _ (stops_change c.args.span (schema_of c.args.schema.now)) c.in_err-growing.ensures.err in
    search rules

pub returns-in_err-take_equalities-clause-err : goal.returns-in_err-take_equalities-clause-err
returns-in_err-take_equalities-clause-err c =
    let a = schema_of c.args.schema.now in
    let m = schema_of c.in_ok-growing.growing in
    let made = xi_made c.args.span a m c.in_ok-growing.places c.as_slice.result.now c.in_ok-growing.ensures.ok.0
    (c.as_slice.ensures ∙ c.get.ensures) c.in_ok-growing.ensures.places c.in_ok-growing.ensures.each in
    let fact = weaker _ _ _ (stops_xi c.args.span a m (equalities c.args.span 0 c.as_slice.result.now) made c.in_ok-growing.ensures.agree) c.in_err-take_equalities.ensures.err in
    search rules

pub returns-clause-ok : goal.returns-clause-ok
returns-clause-ok c =
    let made = xi_made c.args.span (schema_of c.args.schema.now) (schema_of c.in_ok-growing.growing) c.in_ok-growing.places c.as_slice.result.now
    c.in_ok-growing.ensures.ok.0 (c.as_slice.ensures ∙ c.get.ensures) c.in_ok-growing.ensures.places c.in_ok-growing.ensures.each in
    subst (λ (s : Schema). IsNext s (schema_of c.take_equalities.new.self)) made c.in_ok-take_equalities.ensures.ok
