use Rattle.zf_enum.proofs.Prelude.{◌∙◌, ap, eqb-true, Component}
use Rattle.zf_enum.proofs.fixing.is_named.Goals as goal

pub returns-in-Component : goal.returns-in-Component
returns-in-Component c = λ u. c.in-Component.is ∙ ap Component (eqb-true c.in-Component.place c.args.component u)
