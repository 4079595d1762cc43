use Rattle.zf_meaning.proofs.Prelude.{◌∙◌, rules, sym, w64, FitsSigned, same}
use Rattle.zf_meaning.proofs.NumberSets.{built-numbers, no-numbers-built}
use Rattle.zf_meaning.proofs.number_set.built_numbers.Goals as goal

pub returns-in-Some : goal.returns-in-Some
returns-in-Some c =
    let f : FitsSigned w64 c.least.result = search rules in
    let g : FitsSigned w64 c.from.result = search rules in
    built-numbers _ c.args.set c.in-Some.greatest _ _ c.interval.result (sym c.numbers.ensures ∙ c.in-Some.is) (same _ f ∙ c.least.ensures) (same _ g ∙ c.from.ensures) c.interval.ensures

pub returns-in-None : goal.returns-in-None
returns-in-None c = no-numbers-built _ c.args.set (sym c.numbers.ensures ∙ c.in-None.is)
