use Rattle.zf_meaning.proofs.Prelude.{resolved_of, found_outcome}
use Rattle.zf_meaning.proofs.InRow.{outcome-in-row}
use Rattle.zf_meaning.proofs.value.value_of.Goals as goal

pub returns : goal.returns
returns g c =
    outcome-in-row c.args.env.now (g.R.Row.values c.args.row.now) c.no_variables-none.result.now (resolved_of c.args.term.now)
    (found_outcome c.in_ok-found.found) c.into_outcome.result c.no_variables-none.ensures c.in_ok-found.ensures c.into_outcome.ensures
