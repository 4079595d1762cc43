use Rattle.zf_enum.proofs.Prelude.{List, subst, Outcome, Value, resolved_of, environment_of, in_row, HasOutcome, picked, IfOk-weaker}
use Rattle.zf_enum.proofs.Balanced.{value_interval}
use Rattle.zf_enum.proofs.sums.interval_of_value.Goals as goal

pub returns : goal.returns
returns c =
    let e = environment_of c.args.env.now in
    let t = resolved_of c.args.term.now in
    let front = picked c.args.ranges.now c.args.places.now in
    let here = subst (λ (vs : List Value). HasOutcome (in_row e vs) t c.in_ok-outcome.outcome) c.new-row.ensures c.in_ok-outcome.ensures in
    IfOk-weaker c.interval_of_outcome.result _ _
    (λ s h. value_interval e c.args.ranges.now c.args.places.now t s h.0 c.requires.within (c.needs_first.ensures c.if-not-needs_first.false)
    (subst (λ (o : Outcome). HasOutcome (in_row e front) t o) h.1 here) h.2)
    c.interval_of_outcome.ensures
