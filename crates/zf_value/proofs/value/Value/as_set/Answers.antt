use Rattle.zf_value.proofs.Prelude.{◌∙◌, ap, sym, value_of, SetOf}
use Rattle.zf_value.proofs.Measures.{no_set_seen}
use Rattle.zf_value.proofs.value.Value.as_set.Goals as goal

pub returns-in-SetOf-clause-is : goal.returns-in-SetOf-clause-is
returns-in-SetOf-clause-is c = sym c.self.view_is ∙ ap value_of c.in-SetOf.is ∙ ap SetOf (sym c.as_slice.ensures)

pub returns-in_default-clause-none : goal.returns-in_default-clause-none
returns-in_default-clause-none c = no_set_seen _ _ c.self.view_is c.in_default.not-SetOf
