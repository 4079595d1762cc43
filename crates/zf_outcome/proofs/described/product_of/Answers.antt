use Rattle.zf_outcome.proofs.Prelude.{ap, several_by, several_of}
use Rattle.zf_outcome.proofs.Tests.{product-describes, several-undefined, several-out}
use Rattle.zf_outcome.proofs.described.product_of.Goals as goal

pub returns-in_ok-owned-in-Nothing : goal.returns-in_ok-owned-in-Nothing
returns-in_ok-owned-in-Nothing c =
    let vs = c.args.gathered.values.items in
    product-describes (several_of c.args.gathered) c.in_ok-owned-in-Nothing.field-0 vs (ap (λ l. several_by l vs) c.in-Nothing.is) c.in_ok-owned-in-Nothing.ensures

pub returns-in-Undefined : goal.returns-in-Undefined
returns-in-Undefined c = several-undefined (several_of c.args.gathered) (ap (λ l. several_by l c.args.gathered.values.items) c.in-Undefined.is)

pub returns-in-Out : goal.returns-in-Out
returns-in-Out c = several-out (several_of c.args.gathered) (ap (λ l. several_by l c.args.gathered.values.items) c.in-Out.is)
