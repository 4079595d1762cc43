use Rattle.zf_value.proofs.Prelude.{◌∙◌, ap, sym, value_of}
use Rattle.zf_value.proofs.Measures.{no_element_seen}
use Rattle.zf_value.proofs.Elements.{element_test, other_type, no_element}
use Rattle.zf_value.proofs.set.is_element.Goals as goal

pub returns-then-n-number : goal.returns-then-n-number
returns-then-n-number c = element_test _ _ _ _ _ (sym c.z.view_is ∙ ap value_of c.in-Elem.is) c.if-n-number.true

pub returns-else-n-number : goal.returns-else-n-number
returns-else-n-number c = other_type _ _ _ _ _ (sym c.z.view_is ∙ ap value_of c.in-Elem.is) c.if-n-number.false

pub returns-in_default : goal.returns-in_default
returns-in_default c = no_element _ _ _ (no_element_seen _ _ c.z.view_is c.in_default.not-Elem)
