use Rattle.std.proofs.Common.{◌≡◌}
use Rattle.zf_outcome.proofs.Tests.{plain-describes}
use Rattle.zf_outcome.proofs.described.Described.of.Goals as goal

pub returns : goal.returns
returns c = plain-describes (λ o. o ≡ c.args.outcome) c.own.result c.own.ensures
