use Rattle.zf_enum.proofs.Prelude.{List, subst, environment_of, HasOutcome, in_row, resolved_of, Value}
use Rattle.zf_enum.proofs.Equations.{some_weaker}
use Rattle.zf_enum.proofs.keys.key_of_row.Goals as goal

pub returns : goal.returns
returns c =
    let o = c.in_ok-outcome.outcome in
    let here = subst (λ (vs : List Value). HasOutcome (in_row (environment_of c.args.env.now) vs) (resolved_of c.args.side.now) o) c.new-row.ensures c.in_ok-outcome.ensures in
    some_weaker c.key_of.result _ _ (λ n is. (o, here, is)) c.key_of.ensures
