use Rattle.zf_term.proofs.TypeForms.{is_power, of_members}
use Rattle.zf_term.proofs.ztype.ZType.member.Goals as goal

pub returns-in_default : goal.returns-in_default
returns-in_default c t e = let p = is_power _ _ e in c.in_default.not-Power p.0 p.1

pub returns-in-Power : goal.returns-in-Power
returns-in-Power c = of_members _ _ _ c.in-Power.is c.get.ensures
