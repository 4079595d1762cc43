use Rattle.zf_ranges.proofs.Prelude.{◌∙◌, rules, sym, w64, FitsSigned}
use Rattle.zf_ranges.proofs.Typed.{number_here, no_number_here}
use Rattle.zf_ranges.proofs.of_type.is_number.Goals as goal

pub returns-in-Some : goal.returns-in-Some
returns-in-Some c =
    let f : FitsSigned w64 c.in-Some.number = search rules in
    number_here c.args.value.now c.in-Some.number (sym c.in-Some.is ∙ c.number.ensures) f

pub returns-in-None : goal.returns-in-None
returns-in-None c = no_number_here c.args.value.now (sym c.in-None.is ∙ c.number.ensures)
