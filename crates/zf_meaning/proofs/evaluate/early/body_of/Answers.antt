use Rattle.zf_meaning.proofs.Prelude.{◌∙◌, ap, subst, sym, resolved_of, Refutes}
use Rattle.zf_term.specs.declared.resolved.Resolved.TheVariants as form
use Rattle.zf_meaning.proofs.Early.{exists-refutes, exists-one-refutes}
use Rattle.zf_meaning.proofs.evaluate.early.body_of.Goals as goal

pub returns-in-Exists-clause-refutes : goal.returns-in-Exists-clause-refutes
returns-in-Exists-clause-refutes c =
    let i = c.in-Quantified in
    let is = i.is ∙ ap (λ q. form.Quantified q i.field-1 i.field-2 i.field-3 i.body) c.in-Exists.is in
    subst (λ x. Refutes (resolved_of x) (resolved_of c.args.term.now)) (sym c.get.ensures) (exists-refutes c.args.term.now i.field-1 i.field-2 i.field-3 i.body is)

pub returns-in-ExistsOne-clause-refutes : goal.returns-in-ExistsOne-clause-refutes
returns-in-ExistsOne-clause-refutes c =
    let i = c.in-Quantified in
    let is = i.is ∙ ap (λ q. form.Quantified q i.field-1 i.field-2 i.field-3 i.body) c.in-ExistsOne.is in
    subst (λ x. Refutes (resolved_of x) (resolved_of c.args.term.now)) (sym c.get-in-ExistsOne.ensures) (exists-one-refutes c.args.term.now i.field-1 i.field-2 i.field-3 i.body is)
