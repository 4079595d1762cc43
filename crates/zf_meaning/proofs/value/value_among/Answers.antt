use Rattle.zf_meaning.proofs.Prelude.{◌∙◌, ap, length, resolved_of, found_outcome}
use Rattle.zf_meaning.proofs.InRow.{outcome-behind}
use Rattle.zf_meaning.proofs.value.value_among.Goals as goal

pub returns : goal.returns
returns g c = λ free.
    outcome-behind c.args.env.now (g.R.Row.values c.args.row.now) _ c.args.variables
    (resolved_of c.args.term.now) (found_outcome c.in_ok-found.found) c.into_outcome.result
    (ap length c.deref.ensures.value ∙ c.in_ok-locals.ensures) free c.in_ok-found.ensures c.into_outcome.ensures
