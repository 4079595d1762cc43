use Rattle.zf_schema.proofs.Prelude.{◌∙◌, ap, either_span, subst, schema_of, sides_span, Agree, disjoined, Refuses}
use Rattle.zf_schema.proofs.Stopping.{either_refused}
use Rattle.zf_schema.proofs.expression.disjunction.Goals as goal

pub returns-in-Err-clause-wrong : goal.returns-in-Err-clause-wrong
returns-in-Err-clause-wrong c =
    let a = schema_of c.flat.result.now in
    let b = schema_of c.flat-2.result.now in
    let whole = sides_span c.args.sides in
    let refused = subst (λ l. Refuses c.in-Err.stop l c.refusal.result) (c.either_span-span.ensures ∙ ap (λ s. either_span c.in-Err.stop s c.args.name) c.span.ensures) c.refusal.ensures in
    rw (← c.flat.ensures, ← c.flat-2.ensures)
    (either_refused a.comps b.comps (Agree a.comps b.comps) (disjoined whole a b) whole c.args.name c.in-Err.stop c.refusal.result refused
    c.in-Err.ensures.err)
