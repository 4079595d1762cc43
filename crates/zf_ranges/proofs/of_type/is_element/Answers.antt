use Rattle.zf_ranges.proofs.Prelude.{◌↔◌, ◌∙◌, ap, subst, sym, IsTrue, value_of, environment_of, IsExistingElement, type_number}
use Rattle.zf_value.proofs.Measures.{no_element_seen}
use Rattle.zf_ranges.proofs.Typed.{no_element}
use Rattle.zf_ranges.proofs.of_type.is_element.Goals as goal

pub returns-in-Elem : goal.returns-in-Elem
returns-in-Elem c =
    let e = environment_of c.args.env.now in
    subst (λ v. IsTrue c.is_among.result ↔ IsExistingElement e (type_number e c.args.name.now) v) (ap value_of (sym c.in-Elem.is) ∙ c.value.view_is) c.is_among.ensures

pub returns-in_default : goal.returns-in_default
returns-in_default c =
    let e = environment_of c.args.env.now in
    no_element e (type_number e c.args.name.now) c.args.value.now (no_element_seen _ _ c.value.view_is c.in_default.not-Elem)
