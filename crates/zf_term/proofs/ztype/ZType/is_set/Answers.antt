use Rattle.zf_term.proofs.Prelude.{◌∙◌, ap, refl, type_of}
use Rattle.zf_term.proofs.TypesSeen.{of-Power}
use Rattle.zf_term.proofs.ztype.ZType.is_set.Goals as goal

pub returns-in-Power : goal.returns-in-Power
returns-in-Power c = (λ b. (type_of c.in-Power.field-0, ap type_of c.in-Power.is ∙ of-Power _), λ h. refl)
