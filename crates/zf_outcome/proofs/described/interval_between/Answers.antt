use Rattle.zf_outcome.proofs.Prelude.{◌∙◌, rules, sym, w64, FitsSigned, same, number_of}
use Rattle.zf_outcome.proofs.Tests.{no-left, no-right, both-numbers}
use Rattle.zf_outcome.proofs.described.interval_between.Goals as goal

pub returns-in_default : goal.returns-in_default
returns-in_default c = no-left (number_of c.args.v.now) (number_of c.args.w.now) (sym c.number.ensures ∙ c.in_default.is)

pub returns-in_default-number : goal.returns-in_default-number
returns-in_default-number c = no-right (number_of c.args.v.now) (number_of c.args.w.now) (sym c.number-2.ensures ∙ c.in_default-number.is)

pub returns : goal.returns
returns c =
    let f : FitsSigned w64 c.in-Some.from = search rules in
    let g : FitsSigned w64 c.in-Some-number.to = search rules in
    both-numbers (number_of c.args.v.now) (number_of c.args.w.now) c.in-Some.from c.in-Some-number.to _ _ (sym c.in-Some.is ∙ c.number.ensures)
    (sym c.in-Some-number.is ∙ c.number-2.ensures) (same _ f) (same _ g)
