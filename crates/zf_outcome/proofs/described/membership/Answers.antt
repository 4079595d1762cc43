use Rattle.zf_outcome.proofs.Prelude.{subst, sym, IsDescribed, IsTruthIn, found_outcome}
use Rattle.zf_outcome.proofs.Tests.{in-plain}
use Rattle.zf_outcome.proofs.described.membership.Goals as goal

pub returns-in-Plain : goal.returns-in-Plain
returns-in-Plain c =
    subst (λ d. IsTruthIn (IsDescribed d) c.args.relation (found_outcome c.args.x.now) c.atom.result) (sym c.in-Plain.is)
    (in-plain c.in-Plain.found c.args.relation (found_outcome c.args.x.now) c.atom.result c.atom.ensures)
