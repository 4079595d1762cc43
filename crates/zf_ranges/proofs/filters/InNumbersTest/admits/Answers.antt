use Rattle.zf_ranges.proofs.Prelude.{◌↔◌, ◌∙◌, rules, subst, sym, w64, IsTrue, FitsSigned, IsFrom}
use Rattle.zf_value.proofs.Exactly.{same}
use Rattle.zf_outcome.proofs.Comparisons.{in-infinite, none-infinite}
use Rattle.zf_ranges.proofs.filters.InNumbersTest.admits.Goals as goal

pub returns-in-Some : goal.returns-in-Some
returns-in-Some c =
    let f : FitsSigned w64 c.in-Some.n = search rules in
    in-infinite c.args.self.now.set c.args.value.now c.in-Some.n c.is_from.result (sym c.in-Some.is ∙ c.number.ensures)
    (subst (λ x. IsTrue c.is_from.result ↔ IsFrom c.args.self.now.set x) (same c.in-Some.n f) c.is_from.ensures)

pub returns-in-None : goal.returns-in-None
returns-in-None c = none-infinite c.args.self.now.set c.args.value.now (sym c.in-None.is ∙ c.number.ensures)
