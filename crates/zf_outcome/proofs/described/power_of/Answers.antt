use Rattle.zf_outcome.proofs.Prelude.{IsPower, members}
use Rattle.zf_outcome.proofs.Tests.{power-describes, one-undefined, one-out}
use Rattle.zf_outcome.proofs.described.power_of.Goals as goal

pub returns-in_ok-into_value-in-Is : goal.returns-in_ok-into_value-in-Is
returns-in_ok-into_value-in-Is c = power-describes c.args.set c.in-Is.set c.in_ok-into_value-in-Is.field-0 c.in-Is.is c.in_ok-into_value-in-Is.ensures

pub returns-in-Undefined : goal.returns-in-Undefined
returns-in-Undefined c = one-undefined (λ w. IsPower (members w)) c.args.set c.in-Undefined.is

pub returns-in-Out : goal.returns-in-Out
returns-in-Out c = one-out (λ w. IsPower (members w)) c.args.set c.in-Out.is
