use Rattle.zf_calculus.proofs.Prelude.{◌≡◌, inr, rules, subst, conjoined, schema_of, IfStopped, IsTooLarge, Agree, OneClashes, Stops, Flat}
use Rattle.zf_calculus.proofs.Stopping.{weaker}
use Rattle.zf_calculus.proofs.growing.Growing.include.Goals as goal

pub returns-in_err-merged-clause-err : goal.returns-in_err-merged-clause-err
returns-in_err-merged-clause-err c =
    let a = schema_of c.args.self.now in
    let b = schema_of c.args.other in
    let was : c.replace-before.result ≡ c.args.self.now = search rules in
    let e = c.in_err-merged.field-0.0 in
    let fact = weaker e (IsTooLarge (conjoined a b)) (Stops (OneClashes a.comps b.comps) (Agree a.comps b.comps) (conjoined a b)) (λ k h. inr (search rules, h))
    (subst (λ (g : Flat). IfStopped e (IsTooLarge (conjoined (schema_of g) b))) was c.in_err-merged.ensures.err) in
    search rules
