use Rattle.zf_typing.proofs.Prelude.{◌∙◌, ap, map, refl, sym, found_as, variable_of}
use Rattle.zf_typing.proofs.Bound.{some_bound, none_bound}
use Rattle.zf_typing.proofs.scope.is_bound.Goals as goal

pub returns-in-Some : goal.returns-in-Some
returns-in-Some c = (
  λ t. some_bound c.args.name.now (map variable_of c.args.locals.now) (c.in-Some.field-0.0, variable_of c.in-Some.field-0.1.now)
      (sym (ap (found_as (λ v. variable_of v.now)) c.in-Some.is) ∙ c.find.ensures),
  λ b. refl,
)

pub returns-in-None : goal.returns-in-None
returns-in-None c = (
  λ t. absurd (cc),
  λ b. absurd (none_bound c.args.name.now (map variable_of c.args.locals.now) (sym (ap (found_as (λ v. variable_of v.now)) c.in-None.is) ∙ c.find.ensures) b),
)
