use Rattle.zf_meaning.proofs.Prelude.{◌∙◌, ap, sym, environment_of, outcome_in, in_row}
use Rattle.zf_meaning.proofs.Numeric.{found-is}
use Rattle.zf_meaning.proofs.evaluate.numeric.value_named.Goals as goal

pub returns-in-Component : goal.returns-in-Component
returns-in-Component g c = found-is c.component.result _ (c.component.ensures ∙ sym (ap (outcome_in (in_row (environment_of c.args.env.now) (g.R.Row.values c.args.row.now))) c.in-Component.is))
