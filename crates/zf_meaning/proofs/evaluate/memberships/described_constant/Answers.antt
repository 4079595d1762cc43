use Rattle.zf_meaning.proofs.Prelude.{refl, subst, sym, Undefined, environment_of, IsConstantOutcome, plain-describes}
use Rattle.zf_outcome.specs.declared.found.Found.TheVariants as found
use Rattle.zf_meaning.proofs.evaluate.memberships.described_constant.Goals as goal

pub returns-in-True : goal.returns-in-True
returns-in-True c =
    let n = (environment_of c.args.env.now).numbers in
    plain-describes (IsConstantOutcome n c.args.constant) found.Undefined (subst (λ k. IsConstantOutcome n k Undefined) (sym c.in-True.is) refl)

pub returns-in-False : goal.returns-in-False
returns-in-False c =
    let n = (environment_of c.args.env.now).numbers in
    plain-describes (IsConstantOutcome n c.args.constant) found.Undefined (subst (λ k. IsConstantOutcome n k Undefined) (sym c.in-False.is) refl)
