use Rattle.zf_outcome.proofs.Prelude.{◌↔◌, ◌∙◌, rules, sym, subst, w64, IsTrue, FitsSigned, same, IsFrom}
use Rattle.zf_outcome.proofs.Comparisons.{in-infinite, none-infinite}
use Rattle.zf_outcome.proofs.relation.is_in.Goals as goal

pub returns-in-Some : goal.returns-in-Some
returns-in-Some c =
    let f : FitsSigned w64 c.in-Some.n = search rules in
    in-infinite c.args.set c.args.v.now c.in-Some.n c.is_from.result (sym c.in-Some.is ∙ c.number.ensures)
    (subst (λ x. IsTrue c.is_from.result ↔ IsFrom c.args.set x) (same c.in-Some.n f) c.is_from.ensures)

pub returns-in-None : goal.returns-in-None
returns-in-None c = none-infinite c.args.set c.args.v.now (sym c.in-None.is ∙ c.number.ensures)
