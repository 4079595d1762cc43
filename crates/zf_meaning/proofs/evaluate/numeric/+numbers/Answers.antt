use Rattle.zf_meaning.proofs.Prelude.{subst, sym, IfSome, Is, Int, binary, resolved_of, environment_of, HasOutcome, in_row}
use Rattle.zf_meaning.proofs.Operands.{both-seen}
use Rattle.zf_meaning.proofs.evaluate.numeric.+numbers.Goals as goal

pub number_within-returns-in-Application : goal.number_within-returns-in-Application
number_within-returns-in-Application g t c =
    let i = c.in-Binary in
    let k = in_row (environment_of c.args.env.now) (g.R.Row.values c.args.row.now) in
    let a = resolved_of c.get-left.result.now in
    let b = resolved_of c.get-right.result.now in
    let r = c.number_applied.result in
    subst (λ d. IfSome r (λ q. HasOutcome k d (Is (Int q)))) (both-seen c.args.term.now i.field-0 i.op i.left i.right _ _ i.is c.get-left.ensures c.get-right.ensures)
    (subst (λ o. IfSome r (λ q. HasOutcome k (binary i.field-0 o a b) (Is (Int q)))) (sym c.in-Application.is) (c.number_applied.ensures i.field-0))
