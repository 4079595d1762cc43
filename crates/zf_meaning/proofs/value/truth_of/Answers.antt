use Rattle.zf_meaning.proofs.Prelude.{resolved_of, environment_of, IsTruth, in_row}
use Rattle.zf_meaning.proofs.InRow.{truth-in-row}
use Rattle.zf_meaning.proofs.Numeric.{at-some}
use Rattle.zf_meaning.proofs.value.truth_of.Goals as goal

pub returns : goal.returns
returns g c = truth-in-row c.args.env.now (g.R.Row.values c.args.row.now) c.no_variables-none.result.now (resolved_of c.args.term.now) c.truth.result c.no_variables-none.ensures c.truth.ensures

pub returns-in-Some : goal.returns-in-Some
returns-in-Some g c =
    at-some (λ u. IsTruth (in_row (environment_of c.args.env.now) (g.R.Row.values c.args.row.now)) (resolved_of c.args.term.now) u) c.compared_in.result
    c.in-Some.told c.in-Some.is c.compared_in.ensures
