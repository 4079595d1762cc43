use Rattle.zf_outcome.proofs.Prelude.{◌↔◌, ◌∙◌, rules, sym, w64, IsTrue, FitsSigned, AreOrdered}
use Rattle.zf_outcome.proofs.Comparisons.{compared-both, compared-no_left, compared-no_right, written-both}
use Rattle.zf_outcome.proofs.relation.compares.Goals as goal

pub returns-in_default : goal.returns-in_default
returns-in_default c = compared-no_left (AreOrdered c.args.relation) c.args.v.now c.args.w.now (sym c.in_default.is ∙ c.number.ensures)

pub returns-in_default-number : goal.returns-in_default-number
returns-in_default-number c = compared-no_right (AreOrdered c.args.relation) c.args.v.now c.args.w.now (sym c.in_default-number.is ∙ c.number-2.ensures)

pub returns : goal.returns
returns c =
    let m = c.in-Some.m in
    let n = c.in-Some-number.n in
    let f : FitsSigned w64 c.in-Some.m = search rules in
    let h : FitsSigned w64 c.in-Some-number.n = search rules in
    compared-both (AreOrdered c.args.relation) c.args.v.now c.args.w.now m n c.are_ordered.result (sym c.in-Some.is ∙ c.number.ensures) (sym c.in-Some-number.is ∙ c.number-2.ensures)
    (written-both (λ x y. IsTrue c.are_ordered.result ↔ AreOrdered c.args.relation x y) m n f h c.are_ordered.ensures)
