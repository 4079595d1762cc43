use Rattle.zf_meaning.proofs.Prelude.{resolved_of, environment_of, in_row}
use Rattle.zf_meaning.proofs.Numeric.{number-applied}
use Rattle.zf_meaning.proofs.evaluate.numeric.number_applied.Goals as goal

pub returns : goal.returns
returns g c = λ span.
    number-applied (in_row (environment_of c.args.env.now) (g.R.Row.values c.args.row.now)) span (resolved_of c.args.left.now)
    (resolved_of c.args.right.now) c.in_ok-f.f.now c.in_ok-x.x.now c.in_ok-applied.field-0.now c.number.result
    c.in_ok-f.ensures c.in_ok-x.ensures c.in_ok-applied.ensures c.number.ensures
