use Rattle.zf_calculus.proofs.Prelude.{◌∙◌, ◌≡◌, ap, append-nil, arith, drop, drop_all, rules, subst, sym, get_or_default, conjunct_of, IsWithin, schema_of, schema_with, constrained, equalities}
use Rattle.zf_calculus.proofs.Equalities.{stops_equalities}
use Rattle.zf_calculus.proofs.Stopping.{weaker}
use Rattle.zf_calculus.proofs.growing.Growing.take_equalities.Goals as goal

pub returns-in_err-take-clause-err : goal.returns-in_err-take-clause-err
returns-in_err-take-clause-err c =
    let fact = weaker _ _ _ (stops_equalities (schema_of c.loop-place.self)
    (schema_of c.args.self.now) c.args.span c.args.places.now c.loop-place.place _ (conjunct_of c.in_ok-equality.equality) (omega arith)
    (get_or_default c.args.places.now c.loop-place.place _ _ (omega arith)) c.in_ok-equality.ensures c.loop-place.invariant)
    c.in_err-take.ensures.err in
    search rules

pub returns-clause-ok : goal.returns-clause-ok
returns-clause-ok c =
    let s = schema_of c.loop-place.self in
    let all : constrained s (equalities c.args.span c.loop-place.place (drop c.loop-place.place c.args.places.now)) ≡ s =
    ap (λ us. constrained s (equalities c.args.span c.loop-place.place us)) (drop_all c.loop-place.place c.args.places.now (omega arith)) ∙ ap (schema_with s.comps) (append-nil s.conjuncts) in
    let whole : s ≡ constrained (schema_of c.args.self.now) (equalities c.args.span 0 c.args.places.now) = sym all ∙ c.loop-place.invariant in
    (whole, subst IsWithin whole (rw (← c.self.view_is) c.self.invariant.within))
