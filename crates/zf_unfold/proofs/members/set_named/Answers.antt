use Rattle.zf_unfold.proofs.Prelude.{[], resolved_of, environment_of, in_row, HasOutcome, Outcome, subst}
use Rattle.zf_unfold.proofs.Steps.{set_seen}
use Rattle.zf_unfold.proofs.members.set_named.Goals as goal

pub returns-in-Is : goal.returns-in-Is
returns-in-Is c =
    let before = c.is_before.ensures c.if-not-is_before.false in
    let here = subst (λ (o : Outcome). HasOutcome (in_row (environment_of c.args.env.now) []) (resolved_of c.args.set.now) o) c.in-Is.is c.in_ok-value.ensures in
    set_seen c.args.count c.in-Name.field-0 before.0 c.in-Name.reference (environment_of c.args.env.now) c.in-Is.value c.args.set.now c.in-Name.is before.1 before.2 here
