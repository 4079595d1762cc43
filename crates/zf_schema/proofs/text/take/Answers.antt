use Rattle.zf_schema.proofs.Prelude.{◌∷◌, [], schema_of, resolved_of, IsTooLarge, CantTake, conjunct_of, constrained}
use Rattle.zf_schema.proofs.Stopping.{refused_by, cant_take}
use Rattle.zf_schema.proofs.text.take.Goals as goal

pub returns-in-Err-clause-wrong : goal.returns-in-Err-clause-wrong
returns-in-Err-clause-wrong c =
    let a = schema_of c.args.growing.now in
    let t = resolved_of c.args.conjunct.now in
    let u = conjunct_of c.lasting.result in
    refused_by c.in-Err.stop c.span.result c.refusal.result (IsTooLarge (constrained a (u ∷ []))) (CantTake a t)
    (cant_take a t u c.span.result c.lasting.ensures c.span.ensures) c.refusal.ensures c.in-Err.ensures.err
