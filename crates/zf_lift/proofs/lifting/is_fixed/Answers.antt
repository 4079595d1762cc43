use Rattle.zf_lift.proofs.Prelude.{arith, subst, sym, reference, environment_of, IsClosed}
use Rattle.zf_lift.proofs.Arms.{same_place}
use Rattle.zf_lift.proofs.Wherever.{local_closed, global_closed}
use Rattle.zf_lift.proofs.lifting.is_fixed.Goals as goal

pub returns-in-Local-clause-closed : goal.returns-in-Local-clause-closed
returns-in-Local-clause-closed c = λ h l. subst (λ r. IsClosed (environment_of c.args.base.now) (reference l r)) (sym c.in-Local.is)
    (local_closed (environment_of c.args.base.now) l c.in-Local.field-0)

pub returns-in-Global-clause-known : goal.returns-in-Global-clause-known
returns-in-Global-clause-known c = λ i k. omega (arith, same_place c.args.reference c.in-Global.place i c.in-Global.is k, c.if-place-count.true, c.count.ensures)

pub returns-in-Global-clause-closed : goal.returns-in-Global-clause-closed
returns-in-Global-clause-closed c = λ h l. subst (λ r. IsClosed (environment_of c.args.base.now) (reference l r)) (sym c.in-Global.is)
    (global_closed (environment_of c.args.base.now) l c.in-Global.place)
