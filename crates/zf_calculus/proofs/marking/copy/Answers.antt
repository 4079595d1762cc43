use Rattle.zf_calculus.proofs.Prelude.{◌∙◌, [], ap, schema_of, decorated}
use Rattle.zf_calculus.proofs.Decorating.{left_decorated, undecorated}
use Rattle.zf_calculus.proofs.marking.copy.Goals as goal

pub invariant_of-result : goal.invariant_of-result
invariant_of-result c =
    let made = c.in_ok-flat.ensures ∙ ap (λ f. decorated [] (schema_of f)) c.flat.ensures in
    left_decorated [] (schema_of c.args.schema.now) (schema_of c.in_ok-flat.flat) c.left-left.result.sets c.left-left.result.nodes c.left-left.ensures made

pub returns : goal.returns
returns c = (c.in_ok-flat.ensures ∙ undecorated (schema_of c.flat.result.now) ∙ ap schema_of c.flat.ensures, c.left-left.ensures.within)
