use Rattle.zf_meaning.proofs.Prelude.{◌∙◌, sym, subst, resolved_of, IsEquation}
use Rattle.zf_meaning.proofs.Early.{one-equation}
use Rattle.zf_meaning.proofs.evaluate.early.equated.Goals as goal

pub returns-in-Some-clause-is : goal.returns-in-Some-clause-is
returns-in-Some-clause-is c =
    let i = c.in-Chain in
    let k = c.in-Some.ensures in
    subst (λ x. IsEquation (resolved_of x) (resolved_of c.in-Some.right.now) (resolved_of c.args.term.now)) (sym c.get.ensures)
    (one-equation c.args.term.now i.field-0 i.first c.in-Some.right.now i.further k.0 i.is (sym c.as_slice.ensures ∙ k.1) k.2 k.3)
