use Rattle.zf_value.proofs.Prelude.{◌∙◌, ap, sym, value_of, Tuple}
use Rattle.zf_value.proofs.Measures.{no_tuple_seen}
use Rattle.zf_value.proofs.value.Value.as_tuple.Goals as goal

pub returns-in-Tuple-clause-is : goal.returns-in-Tuple-clause-is
returns-in-Tuple-clause-is c = sym c.self.view_is ∙ ap value_of c.in-Tuple.is ∙ ap Tuple (sym c.as_slice.ensures)

pub returns-in_default-clause-none : goal.returns-in_default-clause-none
returns-in_default-clause-none c = no_tuple_seen _ _ c.self.view_is c.in_default.not-Tuple
