use Rattle.zf_term.proofs.Prelude.{◌∙◌, ap, sym, true≢false, power}
use Rattle.zf_term.proofs.TypeForms.{is_power, of_members, members_of}
use Rattle.zf_term.proofs.ztype.ZType.is_relation.Goals as goal

pub returns-in_default : goal.returns-in_default
returns-in_default c = (λ b. absurd (true≢false (sym b)), λ h. let p = is_power _ _ h.2 in absurd (c.in_default.not-Power p.0 p.1))

pub returns-in-Power : goal.returns-in-Power
returns-in-Power c = (
  λ b. let p = c.is_pair.ensures.0 b in (p.0, p.1, of_members _ _ _ c.in-Power.is c.get.ensures ∙ ap power p.2),
  λ h. c.is_pair.ensures.1 (h.0, h.1, members_of _ _ _ _ c.in-Power.is c.get.ensures h.2),
)
