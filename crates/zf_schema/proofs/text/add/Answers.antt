use Rattle.zf_schema.proofs.Prelude.{ap, plain, comp_of, schema_of, resolved_of, type_of, Agrees, Clashes, Stops, CantAdd, grown}
use Rattle.zf_schema.proofs.Stopping.{refused_by, cant_add}
use Rattle.zf_schema.proofs.text.add.Goals as goal

pub returns-in-Err-clause-wrong : goal.returns-in-Err-clause-wrong
returns-in-Err-clause-wrong c =
    let a = schema_of c.args.growing.now in
    let n = c.args.name.now in
    let t = type_of c.args.ztype.now in
    let d = plain (resolved_of c.args.set.now) in
    let l = c.name.inside.span in
    let x = comp_of c.in_ok-component.component in
    refused_by c.in-Err.stop l c.refusal.result (Stops (Clashes a.comps x) (Agrees a.comps x) (grown a x)) (CantAdd a n t d)
    (cant_add a n t d x l c.in_ok-component.ensures (ap (λ m. m.span) c.name.view_is)) c.refusal.ensures c.in-Err.ensures.err
