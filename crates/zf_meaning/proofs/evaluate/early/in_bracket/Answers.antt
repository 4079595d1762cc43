use Rattle.zf_meaning.proofs.Prelude.{subst, sym, resolved_of, Falsifies}
use Rattle.zf_meaning.proofs.Early.{inner-falsifies}
use Rattle.zf_meaning.proofs.evaluate.early.in_bracket.Goals as goal

pub returns-in-Bracket-clause-falsifies : goal.returns-in-Bracket-clause-falsifies
returns-in-Bracket-clause-falsifies c =
    let i = c.in-Bracket in
    subst (λ x. Falsifies (resolved_of x) (resolved_of c.args.term.now)) (sym c.get.ensures) (inner-falsifies c.args.term.now i.field-0 i.inner i.is)
