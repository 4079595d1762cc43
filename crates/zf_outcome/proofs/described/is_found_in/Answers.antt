use Rattle.zf_outcome.proofs.Prelude.{◌↔◌, ap, IsTrue, subst, IsMember, members, found_outcome}
use Rattle.zf_outcome.specs.declared.found.Found.TheVariants.{Undefined, Out}
use Rattle.zf_outcome.proofs.Tests.{in-found, in-no-set}
use Rattle.zf_outcome.proofs.described.is_found_in.Goals as goal

pub returns-in-Is : goal.returns-in-Is
returns-in-Is c =
    in-found c.args.found.now c.args.v.now c.is_member.result c.in-Is.set (ap found_outcome c.in-Is.is)
    (subst (λ s. IsTrue c.is_member.result ↔ IsMember c.args.v.now (members s)) c.get.ensures c.is_member.ensures)

pub returns-in-Undefined : goal.returns-in-Undefined
returns-in-Undefined c = in-no-set c.args.found.now c.args.v.now Undefined c.in-Undefined.is tt

pub returns-in-Out : goal.returns-in-Out
returns-in-Out c = in-no-set c.args.found.now c.args.v.now Out c.in-Out.is tt
