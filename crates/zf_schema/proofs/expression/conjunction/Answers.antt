use Rattle.zf_schema.proofs.Prelude.{refl, schema_of, Agree, conjoined, OneClashes, Stops, CantConjoin}
use Rattle.zf_schema.proofs.Stopping.{refused_by}
use Rattle.zf_schema.proofs.expression.conjunction.Goals as goal

pub returns-in-Err-clause-wrong : goal.returns-in-Err-clause-wrong
returns-in-Err-clause-wrong c =
    let a = schema_of c.args.left in
    let b = schema_of c.args.right in
    let l = c.args.span in
    refused_by c.in-Err.stop l c.refusal.result (Stops (OneClashes a.comps b.comps) (Agree a.comps b.comps) (conjoined a b)) (CantConjoin l a b)
    (λ k h. (refl, h)) c.refusal.ensures c.in-Err.ensures.err
