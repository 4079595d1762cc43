use Rattle.zf_enum.proofs.Prelude.{resolved_of, environment_of, IfOk-weaker}
use Rattle.zf_enum.proofs.Balanced.{difference_interval}
use Rattle.zf_enum.proofs.sums.difference.Goals as goal

pub returns : goal.returns
returns c =
    IfOk-weaker c.minus.result _ _
    (λ s h. difference_interval (environment_of c.args.env.now) c.args.ranges.now c.args.places.now (resolved_of c.args.left.now)
    (resolved_of c.args.right.now) c.in_ok-left.left c.in_ok-right.right s h.1 c.in_ok-left.ensures c.in_ok-right.ensures)
    c.minus.ensures
