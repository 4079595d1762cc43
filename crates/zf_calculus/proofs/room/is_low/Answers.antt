use Rattle.zf_calculus.proofs.Prelude.{arith, refl, conjunct_of, below_nodes}
use Rattle.zf_calculus.proofs.room.is_low.Goals as goal

pub returns-then-count-le-HEIGHT_MAX : goal.returns-then-count-le-HEIGHT_MAX
returns-then-count-le-HEIGHT_MAX c = (λ h. omega (arith, below_nodes (conjunct_of c.args.conjunct.now), c.requires, c.if-count-le-HEIGHT_MAX.true), λ low. refl)
