use Rattle.zf_value.proofs.Prelude.{◌∙◌, ap, sym, value_of}
use Rattle.zf_value.proofs.Compared.{numbers_compared, elements_compared}
use Rattle.zf_value.proofs.value.Value.order.Goals as goal

pub returns-in-Int-Int : goal.returns-in-Int-Int
returns-in-Int-Int c = numbers_compared _ _ _ _ _ (sym c.self.view_is ∙ ap value_of c.in-Int-Int.is-0) (sym c.other.view_is ∙ ap value_of c.in-Int-Int.is-1) c.cmp.ensures

pub returns-in-Elem-Elem : goal.returns-in-Elem-Elem
returns-in-Elem-Elem c = elements_compared _ _ _ _ _ _ _ (sym c.self.view_is ∙ ap value_of c.in-Elem-Elem.is-0)
    (sym c.other.view_is ∙ ap value_of c.in-Elem-Elem.is-1) c.if-t-u.true c.cmp-in-Elem-Elem.ensures
