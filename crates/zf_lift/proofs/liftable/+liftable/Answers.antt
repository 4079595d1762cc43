use Rattle.zf_lift.proofs.Prelude.{◌∙◌, ap, sym, of-Binary, of-Unary, resolved_of, environment_of}
use Rattle.zf_lift.specs.Lifts as spec
use Rattle.zf_lift.proofs.liftable.+liftable.Goals as goal

pub returns-in-Unary : goal.returns-in-Unary
returns-in-Unary t c = let i = c.in-Unary in c.builds.ensures (environment_of c.args.env.now).numbers i.field-0 (resolved_of i.field-2)
    ∙ ap (spec.is_liftable (environment_of c.args.env.now).numbers) (sym (ap resolved_of i.is ∙ of-Unary i.field-0 i.operator i.field-2))

pub returns-in-Binary : goal.returns-in-Binary
returns-in-Binary t c = let i = c.in-Binary in c.combines.ensures (environment_of c.args.env.now).numbers i.field-0 (resolved_of i.field-2)
    (resolved_of i.field-3) ∙ ap (spec.is_liftable (environment_of c.args.env.now).numbers)
    (sym (ap resolved_of i.is ∙ of-Binary i.field-0 i.operator i.field-2 i.field-3))
