use Rattle.zf_value.proofs.Prelude.{◌∙◌, ap, sym, members}
use Rattle.zf_value.proofs.Measures.{members_of_set, no_members}
use Rattle.zf_value.proofs.value.Value.members.Goals as goal

pub returns-in-SetOf-clause-is : goal.returns-in-SetOf-clause-is
returns-in-SetOf-clause-is c = c.as_slice.ensures ∙ sym (members_of_set c.self.inside.form _ c.in-SetOf.is) ∙ ap members c.self.view_is

pub returns-in_default : goal.returns-in_default
returns-in_default c = record { is = sym (no_members c.self.inside.form c.in_default.not-SetOf) ∙ ap members c.self.view_is; ascending = tt }
