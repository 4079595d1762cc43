use Rattle.zf_meaning.proofs.Prelude.{◌∙◌, ap, subst, sym, resolved_of, Falsifies}
use Rattle.zf_term.specs.declared.resolved.Resolved.TheVariants as form
use Rattle.zf_meaning.proofs.Early.{left-falsifies, right-falsifies}
use Rattle.zf_meaning.proofs.evaluate.early.sides_of.Goals as goal

pub returns-then-is_and-clause-left : goal.returns-then-is_and-clause-left
returns-then-is_and-clause-left c =
    let i = c.in-Binary in
    let is = i.is ∙ ap (λ o. form.Binary i.field-0 o i.left i.right) (c.is_and.ensures c.if-is_and.true) in
    subst (λ x. Falsifies (resolved_of x) (resolved_of c.args.term.now)) (sym c.get.ensures) (left-falsifies c.args.term.now i.field-0 i.left i.right is)

pub returns-then-is_and-clause-right : goal.returns-then-is_and-clause-right
returns-then-is_and-clause-right c =
    let i = c.in-Binary in
    let is = i.is ∙ ap (λ o. form.Binary i.field-0 o i.left i.right) (c.is_and.ensures c.if-is_and.true) in
    subst (λ x. Falsifies (resolved_of x) (resolved_of c.args.term.now)) (sym c.get-then-is_and.ensures) (right-falsifies c.args.term.now i.field-0 i.left i.right is)
