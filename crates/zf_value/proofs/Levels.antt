-- How forms compare is how the values compare that they are.
use Rattle.zf_value.proofs.Prelude.{◌∙◌, ◌≡◌, ap, refl, Some, sym, is_eq, value_of, outs-Elem, outs-Int, outs-SetOf, outs-Tuple, Form, is}
use Rattle.zf_value.specs.declared.value.Form.TheVariants as form
use Rattle.zf_value.specs.contracts.plain.ValueOrd.TheImpl as plain
use Rattle.zf_value.specs.contracts.plain.ValueHash.TheImpl as fed
use Rattle.zf_value.specs.contracts.plain.ValueHash.TheImpl.Laws as hashed
use Rattle.zf_value.specs.contracts.value.FormOrd.TheImpl as forms
use Rattle.zf_value.specs.contracts.value.FormHash.TheImpl as fed_forms
use Rattle.zf_value.specs.contracts.plain.ValueOrd.TheImpl.Laws as plain_laws
use Rattle.zf_value.specs.contracts.value.FormOrd.TheImpl.Laws as form_laws
use Rattle.zf_value.specs.contracts.plain.ValuePartialEq.TheImpl as plain_equality
use Rattle.zf_value.specs.contracts.value.FormPartialEq.TheImpl as form_equality
use Rattle.zf_value.specs.contracts.plain.ValuePartialOrd.TheImpl as plain_partial
use Rattle.zf_value.specs.contracts.value.FormPartialOrd.TheImpl as form_partial

pub compared : (f g : Form) → plain.ghosts.cmp (value_of f) (value_of g) ≡ forms.ghosts.cmp f g
compared (form.Int m) (form.Int n) = is _ _ ∙ rw (outs-Int m, outs-Int n) refl
compared (form.Int m) (form.Elem u j) = is _ _ ∙ rw (outs-Int m, outs-Elem u j) refl
compared (form.Int m) (form.Tuple ys) = is _ _ ∙ rw (outs-Int m, outs-Tuple ys) refl
compared (form.Int m) (form.SetOf ys) = is _ _ ∙ rw (outs-Int m, outs-SetOf ys) refl
compared (form.Elem t i) (form.Int n) = is _ _ ∙ rw (outs-Elem t i, outs-Int n) refl
compared (form.Elem t i) (form.Elem u j) = is _ _ ∙ rw (outs-Elem t i, outs-Elem u j) refl
compared (form.Elem t i) (form.Tuple ys) = is _ _ ∙ rw (outs-Elem t i, outs-Tuple ys) refl
compared (form.Elem t i) (form.SetOf ys) = is _ _ ∙ rw (outs-Elem t i, outs-SetOf ys) refl
compared (form.Tuple xs) (form.Int n) = is _ _ ∙ rw (outs-Tuple xs, outs-Int n) refl
compared (form.Tuple xs) (form.Elem u j) = is _ _ ∙ rw (outs-Tuple xs, outs-Elem u j) refl
compared (form.Tuple xs) (form.Tuple ys) = is _ _ ∙ rw (outs-Tuple xs, outs-Tuple ys) refl
compared (form.Tuple xs) (form.SetOf ys) = is _ _ ∙ rw (outs-Tuple xs, outs-SetOf ys) refl
compared (form.SetOf xs) (form.Int n) = is _ _ ∙ rw (outs-SetOf xs, outs-Int n) refl
compared (form.SetOf xs) (form.Elem u j) = is _ _ ∙ rw (outs-SetOf xs, outs-Elem u j) refl
compared (form.SetOf xs) (form.Tuple ys) = is _ _ ∙ rw (outs-SetOf xs, outs-Tuple ys) refl
compared (form.SetOf xs) (form.SetOf ys) = is _ _ ∙ rw (outs-SetOf xs, outs-SetOf ys) refl

pub fed_alike : (f : Form) → fed.ghosts.hash_input (value_of f) ≡ fed_forms.ghosts.hash_input f
fed_alike (form.Int m) = hashed.is _ _ ∙ rw (outs-Int m) refl
fed_alike (form.Elem t i) = hashed.is _ _ ∙ rw (outs-Elem t i) refl
fed_alike (form.Tuple xs) = hashed.is _ _ ∙ rw (outs-Tuple xs) refl
fed_alike (form.SetOf xs) = hashed.is _ _ ∙ rw (outs-SetOf xs) refl

pub equal_alike : (f g : Form) → plain_equality.ghosts.eq (value_of f) (value_of g) ≡ form_equality.ghosts.eq f g
equal_alike f g = plain_laws.matches_eq-law _ _ ∙ ap is_eq (compared f g) ∙ sym (form_laws.matches_eq-law f g)

pub partly_alike : (f g : Form) → plain_partial.ghosts.partial_cmp (value_of f) (value_of g) ≡ form_partial.ghosts.partial_cmp f g
partly_alike f g = plain_laws.matches_partial_cmp-law _ _ ∙ ap Some (compared f g) ∙ sym (form_laws.matches_partial_cmp-law f g)
