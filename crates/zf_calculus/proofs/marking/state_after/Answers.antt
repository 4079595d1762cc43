use Rattle.zf_calculus.proofs.Prelude.{◌∙◌, ap, schema_of, decorated, prime}
use Rattle.zf_calculus.proofs.Changing.{agreed}
use Rattle.zf_calculus.proofs.marking.state_after.Goals as goal

pub returns-clause-agree : goal.returns-clause-agree
returns-clause-agree c =
    agreed c.args.schema.now c.in_ok-after.after (decorated prime (schema_of c.args.schema.now)) c.as_slice.result.now c.as_slice-2.result.now
    (c.as_slice.ensures ∙ ap (λ f. f.components) c.flat-flat.ensures) c.as_slice-2.ensures
    (c.in_ok-after.ensures ∙ ap (λ f. decorated prime (schema_of f)) c.flat-flat.ensures) c.in_ok-agree.ensures.ok
